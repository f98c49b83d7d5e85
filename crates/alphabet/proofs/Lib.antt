-- Laws over plain lists and numbers. For the crates above: `Alphabets` on the characters of an
-- alphabet, `Positions` on the letter number of one, `Spelling` on the key that a text names and
-- on a loop over the text. For this crate's own proofs: `AlphabetLoops`.
pub mod Alphabets
pub mod Positions
pub mod Spelling
mod AlphabetLoops
