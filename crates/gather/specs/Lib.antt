pub mod Joinings
pub mod Kinds
pub mod Gatherings
