pub mod Finding
pub mod Law
pub mod Stamps
pub mod LatestLaws
pub mod LinksLaws
pub mod Making
pub mod StampOrder
pub mod Chains
