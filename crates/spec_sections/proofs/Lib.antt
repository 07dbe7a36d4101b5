pub mod Sections
pub mod Texts
pub mod Values
pub mod Varints
pub mod Properties
