pub mod Front
pub mod Tests
pub mod Complete
pub mod Places
pub mod Beats
pub mod Found
pub mod Different
