pub mod Answer
pub mod Search
pub mod Settled
pub mod Trail
pub mod Watch
pub mod State
