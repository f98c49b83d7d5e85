pub mod CheckReasons
pub mod CountsReasons
pub mod Reasons
