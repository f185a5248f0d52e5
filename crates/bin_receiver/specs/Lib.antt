pub mod Receiver
pub mod Acts
