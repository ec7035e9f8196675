pub mod Lookup
pub mod Items
pub mod Stock
pub mod Theorems
pub mod Steps
pub mod Lines
pub mod Gathering
pub mod Slots
