pub mod Arrivals
pub mod Closed
pub mod Missing
pub mod Needs
