pub mod Utf8
pub mod Loop
pub mod Steps
pub mod Forming
pub mod Takes
pub mod ChangeLaws
pub mod TableLaws
pub mod RecordLaws
