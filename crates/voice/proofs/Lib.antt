pub mod Open
pub mod Fields
pub mod Tiling
pub mod Letters
pub mod Scores
pub mod Walk
pub mod Refusals
pub mod Theorems
