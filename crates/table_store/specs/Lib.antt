pub mod Counts
pub mod Leads
pub mod Owners
pub mod Stored
pub mod Shared
