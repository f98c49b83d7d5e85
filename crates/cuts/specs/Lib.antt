pub mod Mended
pub mod Cut
pub mod Flushed
