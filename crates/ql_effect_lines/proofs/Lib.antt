pub mod Options
pub mod FirstFields
pub mod Values
pub mod Parts
pub mod Txns
pub mod Lines
pub mod Lawful
