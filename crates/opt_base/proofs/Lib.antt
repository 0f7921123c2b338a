pub mod Each
pub mod Given
pub mod Written
pub mod Made
