pub mod Bases
pub mod Chains
pub mod Counting
pub mod Defined
mod Finding
pub mod Growing
pub mod Looking
pub mod Naming
pub mod Putting
pub mod Removing
pub mod Sizing
pub mod Spelling
