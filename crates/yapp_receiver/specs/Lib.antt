pub mod Receiver
pub mod Step
