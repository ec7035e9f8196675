pub mod Open
pub mod Hits
pub mod Ranked
pub mod Rounding
pub mod Nearest
