pub mod Evaluation
pub mod ValueKinds
pub mod Folds
pub mod Able
pub mod Resuming
