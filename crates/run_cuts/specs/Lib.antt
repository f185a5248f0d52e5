pub mod BinLink
pub mod Link
pub mod YappLink
