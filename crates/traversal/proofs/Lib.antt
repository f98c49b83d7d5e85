pub mod Paths
pub mod Searching
pub mod Following
pub mod Climbing
pub mod Requests
pub mod Walking
