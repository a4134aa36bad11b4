pub mod Parts
pub mod EffectLine
pub mod Effects
