pub mod Graph
pub mod Numbers
pub mod NumberLaws
pub mod Pace
pub mod Refusals
pub mod Adjacency
