pub mod Transactions
pub mod Changed
pub mod Joined
pub mod Viewing
