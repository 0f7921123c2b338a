-- The lines of a table: what its records say but for the numbers of the records that they name, and what they are known by.
use Rattle.std.specs.Prelude.{ℕ, List, [], ◌∷◌, ◌++◌, Result, Ok, Err, if◌then◌else◌}
use Rattle.std.specs.List.{list_any}
use Rattle.opt_base.specs.declared.refusal.File.{File}
use Rattle.opt_base.specs.declared.refusal.Kind.TheVariants.{Duplicate}
use Rattle.opt_base.specs.declared.refusal.Refusal.{Refusal}
use Rattle.opt_base.specs.Answers.{◌>>=◌, each}
use Rattle.opt_tables.specs.Keys.{Known, Name, are_same}
use Rattle.opt_tables.specs.Records.{Record, row_of, refused_at, text_in}

-- a table's file and the fields of its records; what the records so far are known by, and what else they say
pub record Lines (L : Type 0) : Type 0 where
  pub file : File
  pub rows : List (List (List ℕ))
  pub keys : List Known
  pub lines : List L

-- no records so far
abbrev pub no_lines : {L : Type 0} → File → List (List (List ℕ)) → Lines L
no_lines file rows = record { file = file; rows = rows; keys = []; lines = [] }

-- the records so far and one more, which is a duplicate where an earlier one is known by the same
abbrev pub with_line : {L : Type 0} → (Record → Result L Refusal) → (Record → L → Known) → Record → Lines L → Result (Lines L) Refusal
with_line line_of key_of row made =
    line_of row >>= λ line.
    if list_any (are_same (key_of row line)) made.keys
    then Err (refused_at row 0 Duplicate)
    else Ok (record { file = made.file; rows = made.rows; keys = made.keys ++ key_of row line ∷ []; lines = made.lines ++ line ∷ [] })

-- the same of the record of this number
abbrev pub with_record : {L : Type 0} → (Record → Result L Refusal) → (Record → L → Known) → File → ℕ → List (List ℕ) → Lines L → Result (Lines L) Refusal
with_record line_of key_of file number fields made = with_line line_of key_of (record { file = file; number = number; fields = fields }) made

-- what the records of a table say, no two of which are known by the same
abbrev pub lines_of : {L : Type 0} → (Record → Result L Refusal) → (Record → L → Known) → File → List (List (List ℕ)) → Result (Lines L) Refusal
lines_of line_of key_of file rows = each (with_record line_of key_of file) 1 (no_lines file rows) rows

-- the same of a table that may be refused as it stands
abbrev pub lines_in : {L : Type 0} → (Record → Result L Refusal) → (Record → L → Known) → File → Result (List (List (List ℕ))) Refusal → Result (Lines L) Refusal
lines_in line_of key_of file grid = grid >>= lines_of line_of key_of file

-- a record is known by the name in its first column
abbrev pub name_key : {L : Type 0} → Record → L → Known
name_key row line = Name (text_in row 1)

-- the same lines without what the records are known by
abbrev pub without_keys : {L : Type 0} → Lines L → Lines L
without_keys lines = record { file = lines.file; rows = lines.rows; keys = []; lines = lines.lines }

-- the records so far and that of one more line, where each is made of a record's fields and its line
abbrev pub with_linked : {L R : Type 0} → (Record → L → Result R Refusal) → Lines L → ℕ → L → List R → Result (List R) Refusal
with_linked record_of lines number line made = record_of (row_of lines.file lines.rows number) line >>= λ one. Ok (made ++ one ∷ [])

-- the records of a table's lines, or the first that names a record which is not there
abbrev pub records_of : {L R : Type 0} → (Record → L → Result R Refusal) → Lines L → Result (List R) Refusal
records_of record_of lines = each (with_linked record_of lines) 1 [] lines.lines

-- the records of a table, or the first refusal of what they name, of which nothing is said until all tables are judged; or the
-- first refusal of the table's lines
abbrev pub records_in : {L R : Type 0} → (Record → Result L Refusal) → (Record → L → Known) → (Record → L → Result R Refusal) → File → Result (List (List (List ℕ))) Refusal → Result (Result (List R) Refusal) Refusal
records_in line_of key_of record_of file grid = lines_in line_of key_of file grid >>= λ lines. Ok (records_of record_of lines)
