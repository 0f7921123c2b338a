pub mod Rounding
pub mod Guide
