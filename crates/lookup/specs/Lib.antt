pub mod Seeking
pub mod Marks
pub mod Trying
pub mod Items
