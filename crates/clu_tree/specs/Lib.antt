pub mod Items
pub mod Links
pub mod Nodes
pub mod Queue
