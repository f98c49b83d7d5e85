-- What a stage knows of the nodes of an accepted image.
pub mod Sounds
