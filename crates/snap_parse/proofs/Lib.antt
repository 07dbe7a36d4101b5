pub mod Climb
pub mod Rise
pub mod Script
pub mod Tokens
pub mod Causes
