pub mod Answers
pub mod Figures
pub mod Pairs
pub mod Ways
