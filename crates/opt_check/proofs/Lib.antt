pub mod PointSteps
pub mod WaySteps
pub mod BoxSteps
pub mod NodeSteps
pub mod CheckSteps
pub mod BytesSteps
pub mod NamedFaults
pub mod BytesShown
