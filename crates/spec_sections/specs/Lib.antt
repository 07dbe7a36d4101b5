pub mod Global
pub mod Texts
pub mod Properties
