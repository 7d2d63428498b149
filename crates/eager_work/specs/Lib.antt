pub mod Attempts
pub mod Early
pub mod Jobs
pub mod Keeping
pub mod Trying
