pub mod Computed
pub mod PlainKeys
pub mod Runs
