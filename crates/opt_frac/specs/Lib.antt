pub mod Divisors
pub mod Equations
pub mod Elimination
pub mod Merging
pub mod Replacing
