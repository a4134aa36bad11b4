pub mod PlainKeeping
pub mod Lowest
pub mod Keeping
pub mod Refuted
pub mod Carried
pub mod Problems
