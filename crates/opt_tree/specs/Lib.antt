pub mod Trees
pub mod Verdicts
pub mod Certificates
pub mod Shown
pub mod Reading
pub mod Nodes
pub mod Narrowed
pub mod Outcomes
