pub mod Kept
pub mod Marks
pub mod Vacant
pub mod OnStack
pub mod Spreading
pub mod Reaching
