pub mod Lending
pub mod Runs
pub mod Laws
pub mod WholeRuns
