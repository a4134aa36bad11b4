pub mod ExecutionFile
pub mod OneLine
pub mod Grammar
pub mod Readings
pub mod FirstFaults
