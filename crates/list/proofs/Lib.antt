-- Laws over plain values: `OutputCases`, 01's two examples; `Outputs`, the whole output by what
-- the check gives, and how long it is; `Inputs`, that enough of the input is read; `Pieces`, the
-- output handed over piece by piece; `Telling`, what the listing's loop keeps; `Sent`, what a
-- writer has got.
mod Inputs
mod OutputCases
mod Outputs
mod Pieces
mod Sent
mod Telling
