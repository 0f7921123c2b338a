pub mod Models
pub mod Questions
pub mod Outcomes
pub mod Problems
