pub mod Comparing
pub mod Rules
