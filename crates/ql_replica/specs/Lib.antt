pub mod Waiting
pub mod Progress
pub mod ReplicaLaws
