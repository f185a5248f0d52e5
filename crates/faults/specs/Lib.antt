pub mod Faults
pub mod Search
pub mod Place
