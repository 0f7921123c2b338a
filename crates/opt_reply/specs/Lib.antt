pub mod Answer
pub mod Delivery
pub mod Fault
pub mod Runs
