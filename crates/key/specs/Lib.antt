pub mod Hand
pub mod Once
