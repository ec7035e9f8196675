pub mod Open
pub mod Sound
pub mod Ways
pub mod Codes
pub mod Paths
pub mod Spelling
pub mod Accepted
pub mod Theorems
