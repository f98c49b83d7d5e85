pub mod Beyond
pub mod Keys
pub mod Lowest
pub mod Rules
pub mod Storing
pub mod Table
pub mod Tree
