pub mod Reader
pub mod Stream
pub mod Pending
