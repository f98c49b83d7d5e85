pub mod Links
pub mod Walkable
