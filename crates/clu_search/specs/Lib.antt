pub mod Count
pub mod Evidence
pub mod Incumbent
pub mod Outcome
pub mod Search
pub mod Whole
