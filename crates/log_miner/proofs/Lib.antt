pub mod Commits
pub mod Mapped
pub mod PlainLaws
pub mod CommittedLaws
