pub mod Slots
pub mod Held
pub mod Places
pub mod Gains
pub mod Stored
pub mod Carrying
