pub mod Dictionary
pub mod Nodes
pub mod Canonical
pub mod Theorems
pub mod Groups
