pub mod Lines
pub mod Rules
pub mod Reading
pub mod Puts
pub mod Attributes
pub mod Done
pub mod Closing
