pub mod Ranges
pub mod Places
pub mod Reach
pub mod Searches
pub mod Walks
