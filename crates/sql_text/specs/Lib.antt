pub mod SqlText
pub mod Contents
pub mod Worked
