pub mod Past
pub mod Read
pub mod Reads
pub mod Steps
