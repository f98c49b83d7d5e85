pub mod AskedCounts
