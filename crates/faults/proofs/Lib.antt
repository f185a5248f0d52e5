pub mod Turns
pub mod Offsets
pub mod Moves
pub mod Place
pub mod Offending
pub mod Earliest
pub mod NameLeast
pub mod SizeLeast
pub mod CrcLeast
pub mod LeastHeader
pub mod LeastLine
pub mod SoundParts
pub mod Values
pub mod Sound
pub mod Fields
mod Examples
