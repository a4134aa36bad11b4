pub mod Network
pub mod Flights
