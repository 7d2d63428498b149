mod Appending
mod Lines
mod OneLog
mod Prints
mod Steps
