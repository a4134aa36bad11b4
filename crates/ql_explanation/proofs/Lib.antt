pub mod Found
pub mod Known
pub mod Judged
mod StrongUses
pub mod Named
mod BlankLines
mod Texts
