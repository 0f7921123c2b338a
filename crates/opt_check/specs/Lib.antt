pub mod Answers
pub mod Way
pub mod Points
pub mod Claims
pub mod Lines
pub mod Bytes
pub mod Progress
