pub mod Executions
pub mod Countermodels
pub mod OfPrograms
