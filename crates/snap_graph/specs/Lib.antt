pub mod Intrinsics
pub mod Lawful
pub mod Matching
pub mod OwnKeys
pub mod Paths
pub mod Values
