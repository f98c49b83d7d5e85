mod LookUpReturns
