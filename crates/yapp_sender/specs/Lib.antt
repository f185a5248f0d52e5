pub mod Sender
pub mod Step
pub mod Output
