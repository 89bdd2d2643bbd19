pub mod Answers
pub mod Session
pub mod Replay
pub mod Given
