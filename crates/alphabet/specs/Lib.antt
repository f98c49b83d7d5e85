pub mod Judged
pub mod Letters
