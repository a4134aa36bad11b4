pub mod Faults
pub mod Whole
pub mod Written
pub mod Memory
pub mod MemShelf
pub mod MemSink
pub mod System
