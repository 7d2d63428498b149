mod Slots
mod Raws
mod Windows
mod Runs
