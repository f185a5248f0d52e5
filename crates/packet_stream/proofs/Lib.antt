pub mod Empty
pub mod Held
pub mod Chunks
pub mod Feeding
pub mod Framing
