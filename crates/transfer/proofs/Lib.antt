-- Laws that this program's proofs cite.
pub mod Zeros
pub mod Turns
