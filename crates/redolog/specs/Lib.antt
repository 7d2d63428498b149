pub mod Words
pub mod Writing
pub mod Showing
pub mod Exit
