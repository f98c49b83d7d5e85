pub mod Passed
mod Stages
