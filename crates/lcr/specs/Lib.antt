pub mod Chunks
pub mod Spilled
