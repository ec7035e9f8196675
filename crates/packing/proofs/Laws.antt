pub mod Width
pub mod Stretches
pub mod Bits
pub mod Chunks
pub mod Held
pub mod Packing
pub mod Calls
