pub mod Assigned
pub mod Coded
pub mod Countermodels
pub mod Patterns
pub mod Lawful
pub mod Blocks
pub mod Built
pub mod Naming
