pub mod Records
pub mod Stream
pub mod Taken
