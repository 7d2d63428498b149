pub mod Front
pub mod Keyed
pub mod Registered
