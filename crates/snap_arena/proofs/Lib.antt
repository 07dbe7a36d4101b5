pub mod Contents
pub mod Growing
pub mod Orders
pub mod Prints
