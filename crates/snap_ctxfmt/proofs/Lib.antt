pub mod Fronts
pub mod Keys
pub mod Places
pub mod Properties
pub mod Sections
