pub mod Field
pub mod Range
