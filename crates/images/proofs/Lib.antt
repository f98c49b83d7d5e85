mod MakeReturns
mod MendReturns
