-- Laws over plain lists and numbers. For the crates above: `Sets` on bytes written into a list,
-- `Bytes` on lists of bytes, `Field` on the numbers in them, `Range` on numbers within limits.
-- For this crate's own proofs: `FieldLoops`.
pub mod Sets
pub mod Bytes
pub mod Field
pub mod Range
mod FieldLoops
