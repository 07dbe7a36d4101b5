pub mod Children
pub mod Edges
pub mod Lawful
pub mod Words
pub mod Worked
