pub mod Counting
pub mod Arrivals
pub mod Firsts
pub mod Records
pub mod Receipts
pub mod Journals
pub mod Lines
pub mod Recovering
