pub mod Folder
pub mod Answers
pub mod Verdicts
pub mod Planning
pub mod Checking
pub mod Auditing
pub mod Reporting
pub mod Words
