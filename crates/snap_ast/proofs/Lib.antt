pub mod Tables
pub mod Extents
pub mod Parents
pub mod Chains
