mod CallValues
mod Chosen
mod Preserved
pub mod NeverStuck
mod FoldSteps
pub mod Accepted
mod StableOrder
mod Insertion
mod EffectsApart
pub mod EffectOrder
mod Fitting
pub mod Answering
pub mod SplitFolds
