pub mod KeysLeft
pub mod Weighing
pub mod Working
