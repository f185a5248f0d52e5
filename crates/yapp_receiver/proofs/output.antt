-- Laws that the proofs of this module cite.
pub mod Laws
