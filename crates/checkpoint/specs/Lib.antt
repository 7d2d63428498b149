pub mod Areas
pub mod Beginning
pub mod Images
pub mod Read
pub mod RowWrites
