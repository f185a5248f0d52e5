pub mod Script
pub mod Printing
