pub mod Globals
pub mod Names
pub mod Parts
pub mod Search
pub mod Sizes
pub mod Texts
