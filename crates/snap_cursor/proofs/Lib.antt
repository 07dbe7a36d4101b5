pub mod NamesFrom
pub mod Opening
pub mod Turns
pub mod Past
