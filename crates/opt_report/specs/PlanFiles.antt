-- What a plan file says: a value for each quantity of a model, or the first refusal.
use Rattle.std.specs.Prelude.{◌≡◌, ◌<◌, ℕ, ◌/◌, ◌%◌, ◌==◌, ◌&&◌, ◌-◌, not, List, [], ◌∷◌, ◌++◌, length, replicate, position, Option, Some, None, is_some, IfSome, Result, Ok, Err, if◌then◌else◌, ℤ, pos, int_lt, int_le, unsigned_abs, slice_set, slice_index_or}
use Rattle.std.specs.Fmt.{decimal, signed_decimal}
use Rattle.std.specs.Option.{ok_or}
use Rattle.std.specs.Ordering.{int_eq}
use Rattle.std.specs.Str.Parse.{digits_value}
use Rattle.csv.specs.Writing.{row_text, default_writer}
use Rattle.opt_base.specs.Answers.{◌>>=◌, each}
use Rattle.opt_base.specs.Refusals.{refusal_at}
use Rattle.opt_base.specs.declared.refusal.File.TheVariants as file
use Rattle.opt_base.specs.declared.refusal.Kind.TheVariants.{BadNumber, NoStepInRange, OutOfRange, UnknownName, Duplicate}
use Rattle.opt_base.specs.declared.refusal.Refusal.{Refusal}
use Rattle.opt_model.specs.Columns.{columns_of}
use Rattle.opt_model.specs.Quantities.{quantities, low, high, list_if, same_quantity}
use Rattle.opt_model.specs.Tables.{Tables}
use Rattle.opt_model.specs.Texts.{words_of, month_of}
use Rattle.opt_model.specs.declared.quantity.Quantity.{Quantity}
use Rattle.opt_read.specs.Grid.{grid_of}
use Rattle.opt_rows.specs.Systems.{root_of}
use Rattle.opt_sums.specs.Sums.{at}
use Rattle.opt_tables.specs.Facts.{IsFrom}
use Rattle.opt_tables.specs.Records.{Record, text_in, refused_at, is_number, number_in}
use Rattle.opt_report.specs.Subjects.{subject_in, quantity_of}
use Rattle.opt_report.specs.Units.{unit_of, amount_of}

-- the record of a quantity with this value, or nothing where it is 0
abbrev pub record_of : Tables → Quantity → ℤ → List ℕ
record_of t q value = list_if (not (int_eq value (pos 0)))
    (row_text default_writer (words_of t q ++ decimal (month_of q) ∷ signed_decimal (amount_of t q value) ∷ []))

-- a number of units, which must lie in a range
abbrev pub units_in : Record → ℕ → ℤ → ℤ → Result ℤ Refusal
units_in row units lowest highest =
    if int_le lowest (pos units) && int_le (pos units) highest then Ok (pos units) else Err (refused_at row 5 OutOfRange)

-- the value that the amount of a record stands for: the amount is a multiple of the unit, and so many units lie in a range
abbrev pub value_in : Record → ℤ → ℤ → ℤ → Result ℤ Refusal
value_in row unit lowest highest =
    if is_number (text_in row 5)
    then
    if digits_value 10 (text_in row 5) % unsigned_abs unit == 0
    then units_in row (digits_value 10 (text_in row 5) / unsigned_abs unit) lowest highest
    else Err (refused_at row 5 NoStepInRange)
    else Err (refused_at row 5 BadNumber)

-- the values that records list of quantities, by the quantities' numbers
abbrev pub Listed : Type 0
Listed = List (Option ℤ)

-- there is a place for each quantity, and what is listed lies in the quantity's range
pub record AreListed (t : Tables) (listed : Listed) : Type 0 where
  pub one_each : length listed ≡ length (quantities t)
  pub within : (number : ℕ) → number < length listed
      → IfSome (slice_index_or listed number None) (IsFrom (at (root_of t).low number) (at (root_of t).high number))

-- no value is listed
abbrev pub none_listed : Tables → Listed
none_listed t = replicate (length (quantities t)) None

-- the same with the value of one more quantity, which has this number
abbrev pub with_value : Tables → Record → Quantity → Listed → ℕ → Result Listed Refusal
with_value t row q listed number =
    if is_some (slice_index_or listed number None) then Err (refused_at row 0 Duplicate)
    else (value_in row (unit_of t q) (low t q) (high t q) >>= λ value. Ok (slice_set listed number (Some value)))

-- the same of a quantity that a record is about, which must exist
abbrev pub with_quantity : Tables → Record → Listed → Option Quantity → Result Listed Refusal
with_quantity t row listed None = Err (refused_at row 0 UnknownName)
with_quantity t row listed (Some q) =
    ok_or (position (same_quantity q) (quantities t)) (refused_at row 0 UnknownName) >>= with_value t row q listed

-- the same with what a record lists
abbrev pub with_row : Tables → Record → Listed → Result Listed Refusal
with_row t row listed =
    subject_in t row >>= λ subject. number_in row 4 1 t.settings.months >>= λ month. with_quantity t row listed (quantity_of t subject month)

-- the same with what the record of this number lists
abbrev pub with_record : Tables → ℕ → List (List ℕ) → Listed → Result Listed Refusal
with_record t number fields listed = with_row t (record { file = file.Plan; number = number; fields = fields }) listed

-- what all records list
abbrev pub listed_in : Tables → List (List (List ℕ)) → Result Listed Refusal
listed_in t rows = each (with_record t) 1 (none_listed t) rows

-- the value of a quantity: what is listed, else 0, which must not lie below its least value
abbrev pub value_or_none : ℤ → Option ℤ → Result ℤ Refusal
value_or_none lowest (Some value) = Ok value
value_or_none lowest None = if int_lt (pos 0) lowest then Err (refusal_at file.Plan 0 5 OutOfRange) else Ok (pos 0)

-- the values so far and that of the quantity of a number, from 1
abbrev pub with_next : Tables → Listed → ℕ → Quantity → List ℤ → Result (List ℤ) Refusal
with_next t listed number q values = value_or_none (low t q) (slice_index_or listed (number - 1) None) >>= λ value. Ok (values ++ value ∷ [])

-- the values of all quantities
abbrev pub values_of : Tables → Listed → Result (List ℤ) Refusal
values_of t listed = each (with_next t listed) 1 [] (quantities t)

-- the values that a plan file's bytes stand for, by number, or the first refusal
unfoldable pub plan_values : Tables → List ℕ → Result (List ℤ) Refusal
plan_values t bytes =
    grid_of file.Plan bytes (columns_of file.Plan t.settings.format) >>= λ rows. listed_in t rows >>= values_of t
