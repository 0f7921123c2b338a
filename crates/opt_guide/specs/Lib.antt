pub mod Relations
pub mod Script
pub mod Lies
