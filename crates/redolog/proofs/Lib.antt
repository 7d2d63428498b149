pub mod Texts
pub mod Pieces
pub mod Going
pub mod Heads
pub mod Ends
