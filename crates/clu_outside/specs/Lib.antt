pub mod Counts
pub mod Folder
pub mod MemoryFolder
pub mod MemorySink
pub mod Sink
