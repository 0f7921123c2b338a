mod BodyLemmas
mod CellLemmas
mod FieldLemmas
mod GridLemmas
pub mod GridLaws
mod ReadLemmas
mod SettingLemmas
pub mod SettingLaws
mod StripLemmas
mod RowLemmas
mod TextLemmas
mod RecordLemmas
