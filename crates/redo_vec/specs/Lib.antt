pub mod Forms
pub mod Columns
pub mod Spelling
pub mod Ranges
pub mod Reading
pub mod Given
pub mod Cutting
