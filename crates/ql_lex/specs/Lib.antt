pub mod Bytes
pub mod Marks
pub mod Starts
pub mod Tokens
