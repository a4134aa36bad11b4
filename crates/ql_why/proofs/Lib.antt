pub mod Lower
pub mod Printable
pub mod Turns
