pub mod Quantities
pub mod Feasibility
pub mod Sums
mod ExampleWords
pub mod Examples
pub mod ExampleLots
pub mod ExampleMonths
pub mod ExampleTexts
