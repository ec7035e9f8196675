pub mod Lexicon
pub mod Sections
