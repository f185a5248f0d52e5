-- How long a frame for display is.
pub mod Tests
