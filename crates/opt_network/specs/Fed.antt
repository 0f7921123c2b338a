-- In which months places feed somebody, by marks.
use Rattle.std.specs.Prelude.{◌≡◌, ℕ, ◌+◌, ◌-◌, ◌*◌, Bool, false, cond, List, slice_index_or, slice_set, pos, int_le, true}
use Rattle.opt_model.specs.Tables.{Tables}
use Rattle.opt_model.specs.Quantities.{all_heads}
use Rattle.opt_model.specs.declared.limits.TheConstants.{MONTH_LIMIT}
use Rattle.opt_model.specs.declared.records.Persons.{Persons}
use Rattle.opt_tables.specs.Facts.{IsMonth}

-- the number of the mark of a place and a month, where each place has a mark for each month that a model may have
abbrev pub mark_number : ℕ → ℕ → ℕ
mark_number place month = place * MONTH_LIMIT + (month - 1)

-- the mark of a place and a month
abbrev pub is_marked : List Bool → ℕ → ℕ → Bool
is_marked marks place month = slice_index_or marks (mark_number place month) false

-- the marks after a record of persons, which marks its place and month where it names somebody
abbrev pub marks_with : List Bool → Persons → List Bool
marks_with marks r = cond (int_le (pos 1) r.persons) (slice_set marks (mark_number r.place r.month) true) marks

-- each place and month of the plan is marked just where the place feeds somebody then
abbrev pub MarksFed : Tables → List Bool → Type 0
MarksFed t marks = (place month : ℕ) → IsMonth t month → is_marked marks place month ≡ int_le (pos 1) (all_heads t place month)
