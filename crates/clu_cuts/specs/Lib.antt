pub mod Point
pub mod Stars
pub mod Cuts
pub mod Shares
