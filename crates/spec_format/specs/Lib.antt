pub mod Check
pub mod Number
pub mod Container
pub mod Strings
pub mod Varint
pub mod Laws
pub mod Startup
pub mod Shapes
