pub mod Linking
pub mod Tables
pub mod Owed
pub mod LinkSets
pub mod TopSets
pub mod Laws
