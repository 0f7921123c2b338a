pub mod Multipliers
pub mod Faults
pub mod Bound
pub mod Verdict
pub mod Kept
pub mod Clip
