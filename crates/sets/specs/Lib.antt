pub mod Meaning
pub mod Tables
pub mod Links
pub mod Soundness
