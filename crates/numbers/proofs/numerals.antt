-- Laws of the definitions of specs/, which this crate's proofs and its callers' cite.
pub mod Writing
