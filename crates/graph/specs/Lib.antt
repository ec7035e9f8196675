pub mod Graph
pub mod Words
pub mod Conditions
pub mod Checking
pub mod Theorems
