pub mod Children
pub mod Names
pub mod Faults
pub mod Few
pub mod Chains
pub mod Visit
pub mod Start
