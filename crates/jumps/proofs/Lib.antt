mod KeyAtReturns
mod PositionReturns
