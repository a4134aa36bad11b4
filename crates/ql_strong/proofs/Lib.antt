pub mod PackageLaws
pub mod SyncLaws
pub mod BareLaws
