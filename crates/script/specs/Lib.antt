pub mod Fields
pub mod Events
pub mod Settings
pub mod Statements
pub mod Lines
pub mod Worked
