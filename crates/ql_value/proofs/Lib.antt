mod Stepwise
mod Ascending
pub mod ScalarOrder
pub mod Keeping
mod Separated
mod NumberText
mod QuotedText
mod ReadSteps
pub mod ScalarGrammar
pub mod ValueLaws
pub mod ValueLimits
