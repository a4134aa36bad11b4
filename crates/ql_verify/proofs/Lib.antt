pub mod Counting
mod Judged
