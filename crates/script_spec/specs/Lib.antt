pub mod ScriptState
pub mod Statements
pub mod Scripts
pub mod Says
pub mod Worked
