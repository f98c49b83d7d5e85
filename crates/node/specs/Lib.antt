pub mod Frame
pub mod Read
pub mod Image
pub mod Writes
