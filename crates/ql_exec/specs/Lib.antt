pub mod Effects
pub mod Relations
pub mod Execution
pub mod Latest
pub mod Links
pub mod Folding
