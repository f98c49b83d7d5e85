pub mod Plain
pub mod KeyPositions
pub mod Right
pub mod StoreCounts
mod Tabulated
pub mod Unique
