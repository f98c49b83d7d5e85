pub mod AskingCounts
