pub mod Changes
pub mod CountingSort
pub mod SlotPairs
mod Slots
pub mod Passes
pub mod Gathers
pub mod Orders
pub mod Descents
pub mod Tops
pub mod SettledTops
mod Phases
mod Structures
pub mod CountedTables
pub mod CountedEvents
pub mod CountedEnds
