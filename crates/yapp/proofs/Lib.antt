mod Entries
pub mod Actions
pub mod Carried
