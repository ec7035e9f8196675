pub mod Register
pub mod Marking
pub mod Finding
pub mod Walking
pub mod Building
pub mod Numbering
pub mod Arcs
pub mod Image
