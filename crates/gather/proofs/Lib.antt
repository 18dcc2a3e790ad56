pub mod Keeps
pub mod Joins
pub mod Arrivals
pub mod Turns
pub mod Begins
pub mod Totals
