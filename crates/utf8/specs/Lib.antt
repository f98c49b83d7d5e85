pub mod Table37
pub mod Text
