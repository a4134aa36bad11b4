pub mod Truth
pub mod Bits
pub mod Tables
pub mod Search
pub mod TransitiveClosures
