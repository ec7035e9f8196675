pub mod Open
pub mod Starred
pub mod Further
pub mod Canonical
pub mod Stock
