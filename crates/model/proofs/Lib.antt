mod Analyses
mod Asking
mod Entries
mod Judging
mod Keeping
pub mod Rests
pub mod Rules
mod Turns
mod Structures
pub mod ReadBack
