mod Filled
pub mod Fronts
pub mod Numerals
mod Numbered
pub mod IdLemmas
