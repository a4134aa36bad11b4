pub mod RunningLaws
pub mod ChangeLaws
pub mod HolderLaws
pub mod JoinedLaws
pub mod NextLaws
pub mod ViewLaws
pub mod CompleteLaws
mod LookupLaws
