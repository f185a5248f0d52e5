pub mod Sender
pub mod Step
