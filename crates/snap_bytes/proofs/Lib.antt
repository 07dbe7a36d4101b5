pub mod Ends
pub mod Varints
