-- Laws of the definitions of specs/, which this crate's proofs and its callers' cite.
mod Bounds
mod Sums
pub mod Places
pub mod Whole
mod Parts
pub mod KindLaws
pub mod RoundTrip
pub mod WriteBack
pub mod Limits
pub mod Faults
pub mod Offending
