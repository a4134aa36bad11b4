pub mod Loops
pub mod Sizes
mod Printing
pub mod Lists
pub mod Floats
pub mod Members
pub mod Depths
pub mod LineEnd
pub mod Texts
