pub mod StringLists
pub mod Pieces
pub mod Sealed
pub mod Parts
pub mod KeyPaths
pub mod Lawful
pub mod Apart
