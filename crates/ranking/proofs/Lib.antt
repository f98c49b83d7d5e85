pub mod Below
pub mod ByLetter
pub mod Placing
pub mod Spotting
