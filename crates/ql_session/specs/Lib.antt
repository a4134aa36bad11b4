pub mod Rows
pub mod Notes
pub mod Index
pub mod Executions
pub mod Past
pub mod Walks
