-- Laws over plain lists and numbers. For the crates above: `TextsAt` on texts written one after
-- another, `LineTexts` on how long a line is. For this crate's own proofs: `Digits` on numbers
-- in decimal, `LineLoops` on what the loops keep.
mod Digits
pub mod TextsAt
pub mod LineTexts
mod LineLoops
