pub mod Listing
pub mod Slots
pub mod Rows
pub mod Tabled
