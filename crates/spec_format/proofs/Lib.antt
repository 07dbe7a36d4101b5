pub mod Checks
pub mod Numbers
pub mod Pieces
pub mod StringLists
pub mod Containers
pub mod Spellings
pub mod Shapes
pub mod Chains
