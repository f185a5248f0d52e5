pub mod Text
pub mod Lister
pub mod Line
