pub mod Cells
pub mod Fields
pub mod Grid
pub mod Keys
pub mod Reading
pub mod Rows
pub mod Settings
pub mod Setup
