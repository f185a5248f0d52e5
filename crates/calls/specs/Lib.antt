pub mod Numbers
pub mod Checks
pub mod Saving
pub mod Recording
pub mod Count
pub mod Texts
