pub mod Keeping
pub mod Slimming
pub mod Covering
pub mod Standing
