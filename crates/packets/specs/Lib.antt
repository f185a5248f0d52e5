pub mod Packet
pub mod Content
pub mod Kind
pub mod Canonical
pub mod Span
pub mod Data
