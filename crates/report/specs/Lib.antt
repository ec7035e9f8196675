pub mod Report
pub mod Text
pub mod Lines
pub mod Page
pub mod Theorems
pub mod Arcs
