-- The theorems of reading and writing, and the laws that they and this crate's proofs cite.
mod Fields
mod Reading
mod Steps
pub mod RoundTrip
pub mod Limits
pub mod Faults
pub mod Offending
