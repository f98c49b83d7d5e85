-- Laws over plain heads and lists, for the crates above: `Permitted` on what is permitted in a
-- head, `Places` on where nodes begin and how many bytes are used, `Fields` on the seven fields
-- among an image's bytes.
pub mod Permitted
pub mod Places
pub mod Fields
