pub mod Texts
pub mod Moves
pub mod Literals
pub mod LiteralLaws
