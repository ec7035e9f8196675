pub mod Open
pub mod Laws
pub mod Theorems
