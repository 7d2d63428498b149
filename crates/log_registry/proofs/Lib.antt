pub mod FrontLaws
pub mod HeaderLaws
pub mod ListLaws
