pub mod Table
pub mod Laws
pub mod Xor
pub mod Times
pub mod Eight
pub mod Augmented
