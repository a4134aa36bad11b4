pub mod Conses
pub mod AscendingIds
pub mod Splits
pub mod Each
pub mod LineEnds
mod FirstBytes
pub mod FieldLaws
pub mod LineLaws
pub mod TextLaws
pub mod OneOutcome
pub mod WrittenNumbers
mod ShortLines
