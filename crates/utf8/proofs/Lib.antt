-- Laws over plain lists and numbers. For the crates above: `Characters` on the character at a
-- place, `Texts` on the characters of a text and on a loop over them. For this crate's own
-- proofs: `Utf8Loops`.
pub mod Characters
pub mod Texts
mod Utf8Loops
