pub mod Frame
pub mod Element
pub mod Canonical
pub mod WellFormed
