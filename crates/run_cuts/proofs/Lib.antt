-- Laws that this program's proofs cite.
pub mod OfFile
