pub mod Examples
pub mod Three
