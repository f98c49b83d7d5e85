-- Laws over heads, tables and lists of bytes, for the crates above: `FieldPlaces` on where links
-- and data are, `Tables` on an image as a table, `Writes` on what a write does to the table,
-- `Heads` on the tables that two heads give for one image, `WholeNodes` on whole nodes,
-- `StoreOnTable` on what the writes of a store do to the table and the head, `Frame` on the
-- bytes that a store leaves as they were.
pub mod FieldPlaces
pub mod Tables
pub mod Writes
pub mod Heads
pub mod WholeNodes
pub mod StoreOnTable
pub mod Frame
