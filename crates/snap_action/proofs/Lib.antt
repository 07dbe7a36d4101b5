pub mod Called
pub mod Follows
pub mod Growing
pub mod Joining
pub mod Lifting
pub mod Throwing
