mod Sizes
pub mod Steps
pub mod Listing
