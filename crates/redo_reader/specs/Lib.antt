pub mod Ahead
pub mod Behind
pub mod Reading
pub mod Steps
