pub mod Lines
pub mod Status
pub mod Replay
pub mod Events
