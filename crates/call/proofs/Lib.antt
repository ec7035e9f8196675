pub mod Open
pub mod Buffers
pub mod Table
