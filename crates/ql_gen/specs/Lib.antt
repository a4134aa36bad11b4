pub mod Draws
pub mod Objects
pub mod Events
pub mod Generated
