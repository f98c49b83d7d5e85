pub mod CompareReturns
