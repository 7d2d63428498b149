pub mod Calls
pub mod Devices
pub mod Keepers
pub mod Places
