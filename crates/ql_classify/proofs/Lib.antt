pub mod Climbing
pub mod LeastLevels
pub mod TargetLists
pub mod TestOrder
pub mod OneOutcome
pub mod NextLower
pub mod Fails
