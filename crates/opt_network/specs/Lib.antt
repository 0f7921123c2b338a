pub mod Counts
pub mod Fed
pub mod Numbering
