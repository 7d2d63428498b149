pub mod Text
pub mod Order
pub mod Outcome
pub mod Literal
pub mod LiteralValue
