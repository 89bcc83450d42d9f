pub mod Chains
pub mod Rebuilt
pub mod State
pub mod Building
