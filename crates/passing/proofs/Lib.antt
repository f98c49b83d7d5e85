pub mod Added
pub mod Passing
pub mod Ranks
pub mod Reached
pub mod Shifted
pub mod Weights
