-- A certificate read line by line: what stands at a place of the text, or the first fault.
use Rattle.std.specs.Prelude.{◌≡◌, ℕ, ◌+◌, ◌-◌, ◌^◌, ◌<◌, ◌≤◌, length, Bool, true, false, ◌&&◌, not, if◌then◌else◌, List, [], ◌∷◌, Option, Some, None, is_some, Result, Ok, Err}
use Rattle.std.specs.Option.{ok_or}
use Rattle.opt_base.specs.Answers.{◌>>=◌}
use Rattle.opt_base.specs.declared.verdict.Verdict.{Verdict}
use Rattle.opt_tree.specs.Certificates.{named_value}
use Rattle.opt_cert.specs.declared.cert_fault.CertFault.{CertFault}
use Rattle.opt_cert.specs.declared.cert_fault.CertFault.TheVariants.{BadLine, Range, Order, Truncated, Trailing, OutOfMemory}
use Rattle.opt_cert.specs.declared.cert_line.CertLine.{CertLine}
use Rattle.opt_cert.specs.declared.cert_line.CertLine.TheVariants as line
use Rattle.opt_cert.specs.declared.place.Place.{Place}
use Rattle.opt_cert.specs.declared.place.Place.TheVariants as place
use Rattle.opt_cert.specs.Numbers.{pieces}
use Rattle.opt_cert.specs.Forms.{form}
use Rattle.opt_cert.specs.Ranges.{is_in_range, is_in_order}

-- what a call gives, seen by view, is what reading gives, unless memory ran out
abbrev pub Fails : {Y : Type 0} → CertFault → Result Y CertFault → Type 0
Fails OutOfMemory read = Unit {0}
Fails (BadLine number) read = read ≡ Err (BadLine number)
Fails (Range number) read = read ≡ Err (Range number)
Fails (Order number) read = read ≡ Err (Order number)
Fails Truncated read = read ≡ Err Truncated
Fails Trailing read = read ≡ Err Trailing

abbrev pub Tells : {X Y : Type 0} → (X → Y) → Result X CertFault → Result Y CertFault → Type 0
Tells view (Ok x) read = read ≡ Ok (view x)
Tells view (Err fault) read = Fails fault read

-- ---- one line
-- its numbers are in range, and then its entries rise
abbrev pub judged : ℕ → CertLine → Result CertLine CertFault
judged number l =
    if not (is_in_range l) then Err (Range number)
    else if not (is_in_order l) then Err (Order number)
    else Ok l

-- the line that this text is at a place: its words first, then its ranges, then its order
abbrev pub line_at : Place → ℕ → List ℕ → Result CertLine CertFault
line_at p number text = ok_or (form p (pieces 32 text)) (BadLine number) >>= judged number

abbrev pub is_last : CertLine → Bool
is_last line.End = true
is_last (line.Header) = false
is_last (line.Verdict v) = false
is_last (line.Root m) = false
is_last (line.Point entries) = false
is_last (line.Split j t) = false
is_last (line.Leaf m) = false

-- whether bytes follow: the pieces after a line feed, parted at line feeds
abbrev pub has_bytes : List (List ℕ) → Bool
has_bytes [] = false
has_bytes ([] ∷ []) = false
has_bytes other = true

-- nothing stands after the last line
abbrev pub unless_trailing : List (List ℕ) → CertLine → Result CertLine CertFault
unless_trailing after l = if is_last l && has_bytes after then Err Trailing else Ok l

-- ---- the text from a line on
-- where a reader stands: which lines may come next, how many it has passed, and the text from there on, parted at line
-- feeds. The last piece is what stands after the last line feed, so a line is complete where a piece follows
pub record Reader : Type 0 where
  pub place : Place
  pub passed : ℕ
  pub pieces : List (List ℕ)

-- the next line of a reader at this place; the line has this number
abbrev pub next_of : Place → ℕ → List (List ℕ) → Result CertLine CertFault
next_of p number [] = Err Truncated
next_of p number (rest ∷ []) = Err Truncated
next_of p number (text ∷ more ∷ after) = line_at p number text >>= unless_trailing (more ∷ after)

abbrev pub next_line : Reader → Result CertLine CertFault
next_line r = next_of r.place (r.passed + 1) r.pieces

-- a split has two trees, and a leaf is one
abbrev pub trees_after : ℕ → CertLine → ℕ
trees_after trees (line.Split j t) = trees + 1
trees_after trees (line.Leaf m) = trees - 1
trees_after trees other = trees

abbrev pub has_point_after : CertLine → Bool
has_point_after (line.Verdict v) = is_some (named_value v)
has_point_after other = false

-- which lines may stand after this one
abbrev pub place_after : Place → CertLine → Place
place_after place.Header l = place.Verdict
place_after place.Verdict l = place.Root (has_point_after l)
place_after (place.Root has_point) l = place.Point has_point
place_after (place.Point has_point) l = place.Nodes 1
place_after (place.Nodes trees) l = place.Nodes (trees_after trees l)

abbrev pub rest_of : List (List ℕ) → List (List ℕ)
rest_of [] = []
rest_of (text ∷ rest) = rest

-- a reader goes on past each line but the last, where it stays
abbrev pub reader_after : Reader → CertLine → Reader
reader_after r l =
    if is_last l then r
    else record { place = place_after r.place l; passed = r.passed + 1; pieces = rest_of r.pieces }

-- no more trees are to come than lines were passed
abbrev pub HasTrees : Place → ℕ → Type 0
HasTrees (place.Nodes trees) passed = trees ≤ passed
HasTrees place.Header passed = Unit {0}
HasTrees place.Verdict passed = Unit {0}
HasTrees (place.Root has_point) passed = Unit {0}
HasTrees (place.Point has_point) passed = Unit {0}

-- what keeps the numbers of a reader small: the lines that it passed, and the bytes that are left
pub record IsReader (p : Place) (passed : ℕ) (rest : List ℕ) : Type 0 where
  pub few : passed + length rest < 2 ^ 32
  pub trees : HasTrees p passed

-- a reader before the first line of a text
abbrev pub reader_of : List ℕ → Reader
reader_of bytes = record { place = place.Header; passed = 0; pieces = pieces 10 bytes }

-- the lines from here on, up to the last, or the first fault
abbrev pub onto : CertLine → Result (List CertLine) CertFault → Result (List CertLine) CertFault
onto l rest = if is_last l then Ok (l ∷ []) else rest >>= λ lines. Ok (l ∷ lines)

abbrev pub lines_from : Place → ℕ → List (List ℕ) → Result (List CertLine) CertFault
lines_from p passed [] = Err Truncated
lines_from p passed (text ∷ rest) =
    next_of p (passed + 1) (text ∷ rest) >>= λ l. onto l (lines_from (place_after p l) (passed + 1) rest)

abbrev pub lines_left : Reader → Result (List CertLine) CertFault
lines_left r = lines_from r.place r.passed r.pieces

-- the lines of a whole text, or the first fault
abbrev pub text_lines : List ℕ → Result (List CertLine) CertFault
text_lines bytes = lines_left (reader_of bytes)
