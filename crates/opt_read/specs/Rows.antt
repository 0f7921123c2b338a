-- The records of a text, as they are read one by one.
use Rattle.std.specs.Prelude.{◌≡◌, ℕ, ◌+◌, Bool, true, false, List, [], ◌∷◌, length, Option, Some, None, All}
use Rattle.std.specs.Borrow.{Bor}
use Rattle.csv.specs.Machine.{ends_at_end}
use Rattle.csv.specs.Reading.{Ready, default_config, is_flexible, reader_config, reader_state, reader_trim, records_from, source_of}
use Rattle.csv.specs.Records.{AllText}
use Rattle.csv.specs.declared.error.ErrorKind.{ErrorKind}
use Rattle.csv.specs.declared.error.ErrorKind.TheVariants as kind
use Rattle.csv.specs.declared.parser.State.{State}
use Rattle.csv.specs.declared.reader.Reader.{Reader}
use Rattle.csv.specs.declared.reader.Trim.TheVariants as trim

-- the reader underneath or memory failed, and nothing in the text
abbrev pub StopsAnyReader : ErrorKind → Type 0
StopsAnyReader (kind.Io e) = Unit {0}
StopsAnyReader kind.OutOfMemory = Unit {0}
StopsAnyReader (kind.UnequalLengths pos expected len) = ⊥
StopsAnyReader (kind.Utf8 pos err) = ⊥
StopsAnyReader (kind.Serialize text) = ⊥
StopsAnyReader (kind.Deserialize pos err) = ⊥

-- the bytes that a reader of a slice has still to read
abbrev pub unread : Reader (Bor (List ℕ)) → Option (List ℕ)
unread reader = source_of (λ bytes. Some bytes.now) reader

-- the records of these bytes, from a state of the reader
abbrev pub records_left : State → Option (List ℕ) → List (List (List ℕ))
records_left state None = []
records_left state (Some bytes) = records_from default_config (length bytes + 1) state bytes

-- a reader that stands between two records of a text and takes them as they are, of any length
pub record IsBetween (reader : Reader (Bor (List ℕ))) : Type 0 where
  pub bytes : List ℕ
  pub bytes_are : unread reader ≡ Some bytes
  pub plain : reader_trim reader ≡ trim.None
  pub ready : Ready reader
  pub config : reader_config reader ≡ default_config
  pub flexible : is_flexible reader ≡ true
  pub between : ends_at_end (reader_state reader) ≡ false
  pub text : All AllText (records_from default_config (length bytes + 1) (reader_state reader) bytes)

-- the next of the records, which is text and leaves the others, or that none is left
abbrev pub NextRecord : Bool → List (List (List ℕ)) → List (List ℕ) → List (List (List ℕ)) → Type 0
NextRecord true before fields after = (before ≡ fields ∷ after) × AllText fields
NextRecord false before fields after = (before ≡ []) × (after ≡ [])
