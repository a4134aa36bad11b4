pub mod Spelling
pub mod Faults
pub mod CertFile
pub mod ProofFile
pub mod Readings
pub mod OneField
pub mod OneLine
pub mod OneProofLine
