mod StoreReturns
