pub mod Hits
pub mod Mean
pub mod Theorems
