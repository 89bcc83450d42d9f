pub mod Labels
pub mod Parts
pub mod Proved
pub mod Rejected
pub mod Tree
