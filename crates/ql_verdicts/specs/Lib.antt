pub mod Agreement
pub mod Renumbered
pub mod Printable
pub mod Commands
pub mod Uses
