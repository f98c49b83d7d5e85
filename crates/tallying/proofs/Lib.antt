pub mod Clearing
pub mod Hiding
pub mod LowestFound
pub mod PlainMarks
pub mod Tells
pub mod Tallying
