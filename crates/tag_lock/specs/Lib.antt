pub mod Rule
pub mod Token
pub mod Guard
pub mod Lending
