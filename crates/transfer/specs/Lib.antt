pub mod Link
pub mod Words
pub mod Session
pub mod YappSession
pub mod BinSession
