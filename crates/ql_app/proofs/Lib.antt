pub mod Powers
pub mod HoldsLaws
pub mod OutcomeLaws
pub mod ProofLaws
mod RequestLaws
mod WordLaws
mod Answered
