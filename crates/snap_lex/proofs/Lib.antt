pub mod Reserved
pub mod Runs
