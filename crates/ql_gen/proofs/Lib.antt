mod EventLaws
pub mod Lawful
mod Numbers
pub mod ObjectLaws
pub mod Spelling
