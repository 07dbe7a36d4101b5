pub mod Errors
pub mod Gives
pub mod Literals
pub mod Names
