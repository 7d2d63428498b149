pub mod ById
pub mod Unique
pub mod Checked
pub mod Beneath
pub mod Kept
