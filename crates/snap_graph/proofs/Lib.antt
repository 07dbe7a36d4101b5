pub mod Fitting
pub mod Following
pub mod Indices
mod LeastPaths
mod Mirrors
mod Ranks
pub mod Turning
