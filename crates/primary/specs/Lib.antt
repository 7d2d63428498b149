pub mod Progress
pub mod Starts
pub mod Cells
pub mod Running
