pub mod Answers
pub mod KeyForm
pub mod Sessions
pub mod Asks
pub mod AnswerLines
pub mod Worked
