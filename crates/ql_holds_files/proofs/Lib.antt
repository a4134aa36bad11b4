pub mod ContractRules
pub mod LineRefusals
pub mod Lines
pub mod OneFile
pub mod Within
mod ShortIds
mod NumberedNames
mod Names
mod Named
mod Spelled
mod Walk
mod Reached
mod Asking
mod Keeping
mod Trees
mod Witness
mod Beginnings
mod Breaking
mod FaultLaws
mod Firsts
