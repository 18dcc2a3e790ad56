pub mod Faults
pub mod Runs
pub mod Carried
pub mod Sinks
