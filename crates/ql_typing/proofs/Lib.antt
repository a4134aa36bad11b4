pub mod FirstFault
pub mod MetNames
pub mod Each
mod Mapped
mod OpsAbove
pub mod KeptNames
pub mod KindsIn
pub mod WordEq
pub mod CallArgs
pub mod Parts
pub mod Flat
pub mod Positions
pub mod Formed
pub mod FaultFree
pub mod InTypes
pub mod ResolvedSet
pub mod Growing
pub mod SameSource
