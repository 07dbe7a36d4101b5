pub mod Judged
pub mod Printed
pub mod Types
