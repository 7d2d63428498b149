pub mod Calls
pub mod Touched
pub mod Held
pub mod OpenTransactions
pub mod Consistency
pub mod Shown
pub mod Given
pub mod States
