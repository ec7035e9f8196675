pub mod Negative
pub mod Bounds
pub mod Signed
