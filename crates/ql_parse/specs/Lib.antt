pub mod Readers
pub mod Readings
pub mod Precedences
pub mod Parsing
pub mod Junctions
