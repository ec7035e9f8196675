pub mod Lists
pub mod Integers
pub mod Bytes
pub mod Rows
