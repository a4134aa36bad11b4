pub mod Work
pub mod Verdicts
pub mod Firsts
