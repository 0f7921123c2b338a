-- What the bytes of a table say.
use Rattle.std.specs.Prelude.{ℕ, ◌+◌, ◌-◌, ◌==◌, ◌||◌, nat_lt, not, Bool, List, [], ◌∷◌, ◌++◌, map, drop, take, length, count_by, Option, Some, None, Result, Ok, Err, if◌then◌else◌, slice_index_or, cond, position}
use Rattle.std.specs.List.{prefix_len, suffix_len}
use Rattle.std.specs.Str.{bytes_eq}
use Rattle.csv.specs.Reading.{default_config, records, strip_bom}
use Rattle.opt_base.specs.Answers.{◌>>=◌, each}
use Rattle.opt_base.specs.Refusals.{refusal_at, refusal_of_record}
use Rattle.opt_base.specs.declared.refusal.Refusal.{Refusal}
use Rattle.opt_base.specs.declared.refusal.File.{File}
use Rattle.opt_base.specs.declared.refusal.Kind.TheVariants.{ColumnMissing, ColumnTwice, Uneven}
use Rattle.opt_model.specs.Columns.{names_of}
use Rattle.opt_read.specs.Reading.{text_of}

-- the record of this number, from 1; no field where there is none
abbrev pub record_at : List (List (List ℕ)) → ℕ → List (List ℕ)
record_at rows number = cond (nat_lt 0 number) (slice_index_or rows (number - 1) []) []

-- the field of the record of this number, from 1, in this column, from 0; empty where there is none
abbrev pub field_at : List (List (List ℕ)) → ℕ → ℕ → List ℕ
field_at rows number column = slice_index_or (record_at rows number) column []

-- a space or a tab
abbrev pub is_blank : ℕ → Bool
is_blank byte = (byte == 32) || (byte == 9)

-- a field without the spaces and tabs at its start
abbrev pub without_front : List ℕ → List ℕ
without_front field = drop (prefix_len is_blank field) field

-- the same at its end
abbrev pub without_back : List ℕ → List ℕ
without_back field = take (length field - suffix_len is_blank field) field

-- the same at both ends
abbrev pub without_blanks : List ℕ → List ℕ
without_blanks field = without_back (without_front field)

-- the records of a table, the one that names the columns first, each field stripped
abbrev pub rows_of : List ℕ → List (List (List ℕ))
rows_of bytes = map (map without_blanks) (records default_config (strip_bom bytes))

-- the fields of the first record
abbrev pub header_of : List ℕ → List (List ℕ)
header_of bytes = slice_index_or (rows_of bytes) 0 []

-- the records after it
abbrev pub body_of : List ℕ → List (List (List ℕ))
body_of bytes = drop 1 (rows_of bytes)

-- the fields of the first of some records, stripped; none where there is no record
abbrev pub first_fields : List (List (List ℕ)) → List (List ℕ)
first_fields rows = map without_blanks (slice_index_or rows 0 [])

-- the fields of a record at these places, stripped
abbrev pub fields_at : List ℕ → List (List ℕ) → List (List ℕ)
fields_at places row = map (λ place. slice_index_or (map without_blanks row) place []) places

-- where a name stands, given its first place and how often it stands there
abbrev pub sole_place : File → ℕ → Option ℕ → ℕ → Result ℕ Refusal
sole_place file column None times = Err (refusal_at file 0 column ColumnMissing)
sole_place file column (Some place) times = if times == 1 then Ok place else Err (refusal_at file 0 column ColumnTwice)

-- the place, from 0, of the one field of the first record that is this name; the column's number is from 1
abbrev pub place_of : File → List (List ℕ) → ℕ → List ℕ → Result ℕ Refusal
place_of file header column name =
    sole_place file column (position (λ field. bytes_eq field name) header) (count_by (λ field. bytes_eq field name) header)

-- the places of these names, in their order, or the first name that does not stand there just once
abbrev pub places_of : File → List (List ℕ) → List (List ℕ) → Result (List ℕ) Refusal
places_of file header names =
    each (λ column name places. place_of file header column name >>= λ place. Ok (places ++ place ∷ [])) 1 [] names

-- nothing, or the record at this index, numbered from 1, is uneven
abbrev pub even_unless : File → Option ℕ → Result (Unit {0}) Refusal
even_unless file None = Ok tt
even_unless file (Some index) = Err (refusal_of_record file (index + 1) Uneven)

-- every record has this many fields, or the first that has not is refused
abbrev pub evenness_of : File → ℕ → List (List (List ℕ)) → Result (Unit {0}) Refusal
evenness_of file width rows = even_unless file (position (λ row. not (length row == width)) rows)

-- of each record the fields at these places
abbrev pub projection : List (List (List ℕ)) → List ℕ → List (List (List ℕ))
projection rows places = map (λ row. map (λ place. slice_index_or row place []) places) rows

-- of records that must each have this many fields, those at these places
abbrev pub even_table : File → ℕ → List (List (List ℕ)) → List ℕ → Result (List (List (List ℕ))) Refusal
even_table file width rows places = evenness_of file width rows >>= λ _. Ok (projection rows places)

-- the table that records make, the first of which names the columns
abbrev pub table_of : File → List (List ℕ) → List (List (List ℕ)) → List (List ℕ) → Result (List (List (List ℕ))) Refusal
table_of file header rows names = places_of file header names >>= λ places. even_table file (length header) rows places

-- the table that a text is
abbrev pub text_table_of : File → List ℕ → List ℕ → Result (List (List (List ℕ))) Refusal
text_table_of file text columns = table_of file (header_of text) (body_of text) (names_of columns)

-- the fields of a table's records in the columns that are named, parted by commas, or the first refusal
unfoldable pub grid_of : File → List ℕ → List ℕ → Result (List (List (List ℕ))) Refusal
grid_of file bytes columns =
    text_of file bytes >>= λ text. text_table_of file text columns
