pub mod Tables
pub mod Links
pub mod Growth
pub mod Order
pub mod Counts
pub mod Analysed
pub mod Settling
pub mod Structure
