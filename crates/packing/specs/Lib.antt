pub mod Width
pub mod Packing
pub mod Offsets
pub mod Theorems
pub mod Walks
