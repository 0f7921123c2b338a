pub mod Told
pub mod Deliveries
pub mod CommandRuns
