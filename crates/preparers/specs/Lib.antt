pub mod Ring
pub mod Pieces
pub mod Pending
pub mod Steps
