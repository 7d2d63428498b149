pub mod Command
pub mod Answers
pub mod Headline
pub mod Devices
pub mod Writing
pub mod Printing
pub mod Printout
pub mod Folding
