pub mod Rows
pub mod Table
pub mod Cells
pub mod Steps
