pub mod Heading
pub mod Draft
pub mod Text
pub mod Given
pub mod Showing
pub mod FaultLine
pub mod Streaming
