pub mod PathCounts
pub mod Shifting
pub mod Tracking
