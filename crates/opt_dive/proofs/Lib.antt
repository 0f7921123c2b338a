pub mod FixLemmas
pub mod RoundSteps
pub mod WholePoints
pub mod Laws
