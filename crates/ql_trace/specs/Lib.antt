pub mod Json
pub mod Kinds
pub mod Ids
pub mod Forms
pub mod FormTexts
pub mod Meaning
