pub mod Best
pub mod Tokens
pub mod InPlace
pub mod Theorems
