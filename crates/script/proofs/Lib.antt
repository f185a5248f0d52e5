-- Laws of the definitions of specs/.
pub mod Script
pub mod Words
pub mod Printed
