pub mod CodeRanks
pub mod Main
