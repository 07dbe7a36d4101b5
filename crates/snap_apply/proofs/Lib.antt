pub mod Apart
pub mod Spelling
pub mod Types
