pub mod Pick
pub mod Lists
pub mod Name
pub mod Buffer
pub mod Stamps
pub mod Faults
