pub mod Ring
pub mod SumLemmas
pub mod EntryLemmas
pub mod RisingLemmas
