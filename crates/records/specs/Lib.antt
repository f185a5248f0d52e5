pub mod Record
pub mod Saved
