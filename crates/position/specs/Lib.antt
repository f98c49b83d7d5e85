pub mod Calls
pub mod Cases
pub mod Counts
pub mod Orders
pub mod Promises
pub mod Steps
