pub mod RunEnd
pub mod RunStart
pub mod Taken
pub mod Created
pub mod Broken
pub mod Again
