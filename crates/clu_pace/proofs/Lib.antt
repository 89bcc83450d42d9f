pub mod GraphLaws
pub mod Adjacency
pub mod Kept
pub mod Lines
pub mod Reading
pub mod Refused
pub mod Whole
