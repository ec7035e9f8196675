pub mod Numbers
pub mod Successors
pub mod Nodes
pub mod Lists
pub mod Image
