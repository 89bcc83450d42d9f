pub mod Heaviest
pub mod FreeLists
