pub mod Answers
pub mod Outside
pub mod Calls
pub mod Refusals
pub mod Draws
