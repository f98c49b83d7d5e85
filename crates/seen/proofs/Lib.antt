pub mod SameCalls
pub mod SameWrites
pub mod Seen
