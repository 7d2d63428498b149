pub mod Words
pub mod Fields
pub mod Known
pub mod Given
