pub mod Hand
pub mod Judging
pub mod Keyed
mod Typing
