pub mod Firsts
pub mod InOrder
pub mod Resolved
pub mod Rounds
pub mod Spans
pub mod Standing
pub mod Told
