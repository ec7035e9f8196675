pub mod Told
pub mod Listed
pub mod Sums
pub mod Running
pub mod Closing
pub mod Whole
pub mod Calling
