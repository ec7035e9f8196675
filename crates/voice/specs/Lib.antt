pub mod Fields
pub mod Voice
pub mod Sections
pub mod Theorems
