pub mod Open
pub mod Reading
pub mod Written
pub mod Same
pub mod ArcCount
pub mod Sizes
