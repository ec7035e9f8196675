pub mod Tables
pub mod Judging
pub mod Marks
pub mod Filling
pub mod Longest
pub mod Pairs
pub mod Bits
pub mod PairTable
