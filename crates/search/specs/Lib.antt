pub mod Found
pub mod Calling
pub mod Running
