pub mod Duality
pub mod PointLaws
pub mod FaultLemmas
pub mod BoundSizes
pub mod KeptLemmas
pub mod LeafLemmas
pub mod ClipLemmas
pub mod ClipLaws
