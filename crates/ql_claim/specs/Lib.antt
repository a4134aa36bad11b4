pub mod Headline
pub mod InTurn
pub mod Soundness
pub mod Kept
pub mod RunWritten
pub mod LeastWritten
