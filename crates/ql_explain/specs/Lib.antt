pub mod JsonExplanations
pub mod Words
pub mod Outcomes
