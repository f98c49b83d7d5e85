mod CheckReturns
