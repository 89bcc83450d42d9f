pub mod Conditions
pub mod Reduction
pub mod Tests
pub mod Steps
pub mod Sweep
pub mod Components
pub mod Parts
pub mod Rows
