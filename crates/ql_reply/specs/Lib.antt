pub mod Arguments
pub mod Causes
pub mod Lines
pub mod Read
pub mod Statuses
pub mod Unread
pub mod Wrote
