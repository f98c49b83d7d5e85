pub mod Seeking
