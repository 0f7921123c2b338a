pub mod Sizes
pub mod JoinLemmas
pub mod CutLemmas
pub mod BrokenLemmas
pub mod ColumnLemmas
pub mod LimitLemmas
pub mod ColumnFacts
