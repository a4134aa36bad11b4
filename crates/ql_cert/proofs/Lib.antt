mod FieldLaws
mod LineLaws
pub mod Walking
pub mod FirstFaults
mod Walks
pub mod States
mod Refusals
mod ProofStates
mod ProofRefusals
pub mod Printing
mod Plainness
pub mod OneReading
