pub mod Ranges
pub mod Cuts
pub mod Rows
pub mod Broken
pub mod Columns
pub mod Systems
pub mod Stored
pub mod Equal
