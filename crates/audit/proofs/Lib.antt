pub mod EachReached
pub mod Verdicts
