pub mod Pairs
pub mod Refusals
pub mod Analysing
pub mod Answers
pub mod Structure
