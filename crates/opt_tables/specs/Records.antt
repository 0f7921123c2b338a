-- A record of a table, and what stands in its columns.
use Rattle.std.specs.Prelude.{ℕ, ◌-◌, ◌==◌, ◌&&◌, nat_lt, nat_le, List, [], length, Bool, not, bytes_eq, codes, position, Option, Some, None, Result, Ok, Err, if◌then◌else◌, slice_index_or}
use Rattle.std.specs.Char.{is_ascii_digit}
use Rattle.std.specs.List.{list_all}
use Rattle.std.specs.Option.{ok_or}
use Rattle.std.specs.Str.Parse.{digits_value}
use Rattle.opt_base.specs.declared.refusal.File.{File}
use Rattle.opt_base.specs.declared.refusal.Kind.{Kind}
use Rattle.opt_base.specs.declared.refusal.Kind.TheVariants.{EmptyName, NameTooLong, BadNumber, OutOfRange, UnknownName}
use Rattle.opt_base.specs.declared.refusal.Refusal.{Refusal}
use Rattle.opt_base.specs.Refusals.{refusal_at}
use Rattle.opt_base.specs.Answers.{◌>>=◌}
use Rattle.opt_model.specs.declared.records.PlaceKind.{PlaceKind}
use Rattle.opt_model.specs.declared.records.PlaceKind.TheVariants as kind
use Rattle.opt_read.specs.Grid.{record_at}
use Rattle.opt_tables.specs.Keys.{Known, Name, are_same}

-- a record of a table: the table's file, the record's number from 1, its fields
pub record Record : Type 0 where
  pub file : File
  pub number : ℕ
  pub fields : List (List ℕ)

-- the record of this number, from 1, in a table
abbrev pub row_of : File → List (List (List ℕ)) → ℕ → Record
row_of file rows number = record { file = file; number = number; fields = record_at rows number }

-- the refusal of a record for what stands in a column, numbered from 1, or for the record as a whole, 0
abbrev pub refused_at : Record → ℕ → Kind → Refusal
refused_at row column kind = refusal_at row.file row.number column kind

-- what stands in a column, numbered from 1
abbrev pub text_in : Record → ℕ → List ℕ
text_in row column = slice_index_or row.fields (column - 1) []

-- a name that may be missing, of at most 64 bytes
abbrev pub optional_name_in : Record → ℕ → Result (List ℕ) Refusal
optional_name_in row column =
    if nat_lt 64 (length (text_in row column)) then Err (refused_at row column NameTooLong) else Ok (text_in row column)

-- a name, of 1 to 64 bytes
abbrev pub name_in : Record → ℕ → Result (List ℕ) Refusal
name_in row column =
    if length (text_in row column) == 0 then Err (refused_at row column EmptyName) else optional_name_in row column

-- whether a text is one or more digits
abbrev pub is_number : List ℕ → Bool
is_number text = not (length text == 0) && list_all is_ascii_digit text

-- a number from low to high
abbrev pub number_in : Record → ℕ → ℕ → ℕ → Result ℕ Refusal
number_in row column low high =
    if is_number (text_in row column)
    then
    if nat_le low (digits_value 10 (text_in row column)) && nat_le (digits_value 10 (text_in row column)) high
    then Ok (digits_value 10 (text_in row column))
    else Err (refused_at row column OutOfRange)
    else Err (refused_at row column BadNumber)

-- the same of a column that may be empty
abbrev pub optional_number_in : Record → ℕ → ℕ → ℕ → Result (Option ℕ) Refusal
optional_number_in row column low high =
    if length (text_in row column) == 0 then Ok None else number_in row column low high >>= λ number. Ok (Some number)

-- the kind of place that a word names
abbrev pub kind_named : List ℕ → Option PlaceKind
kind_named word =
    if bytes_eq word (codes "supplier") then Some kind.Supplier
    else (if bytes_eq word (codes "port") then Some kind.Port
    else (if bytes_eq word (codes "hub") then Some kind.Hub
    else (if bytes_eq word (codes "point") then Some kind.Point else None)))

-- the kind of place that a column names
abbrev pub kind_in : Record → ℕ → Result PlaceKind Refusal
kind_in row column = ok_or (kind_named (text_in row column)) (refused_at row column UnknownName)

-- the number of the record that a column names, from 0, among those that are known by their names
abbrev pub reference_in : Record → ℕ → List Known → Result ℕ Refusal
reference_in row column keys = ok_or (position (are_same (Name (text_in row column))) keys) (refused_at row column UnknownName)

-- the same of a column that may be empty
abbrev pub optional_reference_in : Record → ℕ → List Known → Result (Option ℕ) Refusal
optional_reference_in row column keys =
    if length (text_in row column) == 0 then Ok None else reference_in row column keys >>= λ number. Ok (Some number)
