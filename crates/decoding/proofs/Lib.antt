pub mod Listing
pub mod Calling
