pub mod Open
pub mod Guided
pub mod State
pub mod Outcomes
