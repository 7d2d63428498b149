pub mod MinedLines
pub mod Live
pub mod Goes
pub mod Mining
pub mod Stages
pub mod Calls
pub mod Worked
