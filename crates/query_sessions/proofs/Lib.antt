pub mod Answering
pub mod Finding
pub mod LineForms
pub mod Opening
