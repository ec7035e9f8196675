pub mod SmallLexicon
pub mod Further
pub mod Canonical
pub mod Stock
