pub mod StatePaths
pub mod TrueScore
pub mod Score
pub mod Token
pub mod Decoding
pub mod Demand
pub mod Theorems
