-- The text of records of text is text, and reads back as the records.
use Rattle.std.proofs.Common.{◌≡◌, ◌<◌, ◌≤◌, ◌+◌, ◌==◌, ℕ, zero, suc, Bool, true, false, List, [], ◌∷◌, ◌++◌, map, take, drop, length, get_or, All, IsUtf8, refl, ap, sym, subst, ◌∙◌, arith, append_assoc}
use Rattle.std.proofs.lemmas.Bool.{eqb-true, and_parts, ltb-true}
use Rattle.std.proofs.lemmas.List.{length-append}
use Rattle.std.proofs.lemmas.Str.{IsCharBoundary-after_ascii, IsCharBoundary-before_ascii, IsUtf8-append, IsUtf8-drop, IsUtf8-from_ascii, IsUtf8-nil, IsUtf8-take}
use Rattle.std.specs.Prelude.{if◌then◌else◌, nat_lt}
use Rattle.std.specs.Str.{IsAscii}
use Rattle.std.proofs.lemmas.List.Elements.{All-head, All-tail}
use Rattle.std.specs.List.{list_any, list_all}
use Rattle.csv.specs.Machine.{next_record}
use Rattle.csv.specs.Reading.{default_config, records, records_from}
use Rattle.csv.specs.Writing.{default_writer, escaped, field_text, fields_text, is_blank, needs_byte, row_body, row_text, read_back}
use Rattle.csv.specs.declared.parser.State.TheVariants as st
use Rattle.csv.proofs.RoundTrip.{read-write, rows_text}

-- ---- quotes

here_at : (front rest : List ℕ) (b : ℕ) → get_or (front ++ b ∷ rest) (length front) 0 ≡ b
here_at [] rest b = refl
here_at (x ∷ front) rest b = here_at front rest b

take_front : (front rest : List ℕ) → take (length front) (front ++ rest) ≡ front
take_front [] [] = refl
take_front [] (y ∷ rest) = refl
take_front (x ∷ front) rest = ap (λ xs. x ∷ xs) (take_front front rest)

drop_front : (front rest : List ℕ) (b : ℕ) → drop (suc (length front)) (front ++ b ∷ rest) ≡ rest
drop_front [] rest b = refl
drop_front (x ∷ front) rest b = drop_front front rest b

-- a quotation mark parts a text in two texts
parted : (front rest : List ℕ) → IsUtf8 (front ++ 34 ∷ rest) → IsUtf8 front × IsUtf8 rest
parted front rest u =
    let whole : List ℕ = front ++ 34 ∷ rest in
    let within : length front < length whole = omega (arith, length-append front (34 ∷ rest)) in
    let small : get_or whole (length front) 0 < 128 = omega (arith, here_at front rest 34) in
    let next : length front + 1 ≡ suc (length front) = omega arith in (
      subst IsUtf8 (take_front front (34 ∷ rest)) (IsUtf8-take whole (length front) u (IsCharBoundary-before_ascii whole (length front) within small)),
      subst IsUtf8 (ap (λ n. drop n whole) next ∙ drop_front front rest 34) (IsUtf8-drop whole (length front + 1) u (IsCharBoundary-after_ascii whole (length front) u within small)),
    )

-- a byte of ASCII is a text
pub ascii_one : (b : ℕ) → b < 128 → IsUtf8 (b ∷ [])
ascii_one b h = IsUtf8-from_ascii (b ∷ []) at
  where
    at : IsAscii (b ∷ [])
    at zero = h
    at (suc i) = omega arith

-- bytes of ASCII are a text
pub ascii_text : (text : List ℕ) → list_all (λ b. nat_lt b 128) text ≡ true → IsUtf8 text
ascii_text [] all = IsUtf8-nil
ascii_text (b ∷ rest) all =
    let both = and_parts (nat_lt b 128) (list_all (λ c. nat_lt c 128) rest) all in
    IsUtf8-append (b ∷ []) rest (ascii_one b (ltb-true b 128 both.0)) (ascii_text rest both.1)

-- a text whose quotation marks are doubled from a place on is a text
escaped_text : (front field : List ℕ) → IsUtf8 (front ++ field) → IsUtf8 (front ++ escaped default_writer field)
unfolding escaped
escaped_text front [] u = u
escaped_text front (b ∷ rest) u = by (λ start more. escaped_text start rest more) (b == 34) refl
  where
    by : ((start : List ℕ) → IsUtf8 (start ++ rest) → IsUtf8 (start ++ escaped default_writer rest)) → (quote : Bool) → (b == 34) ≡ quote
        → IsUtf8 (front ++ escaped default_writer (b ∷ rest))
    by again true e =
        let is : b ≡ 34 = eqb-true b 34 e in
        let parts = parted front rest (subst (λ x. IsUtf8 (front ++ x ∷ rest)) is u) in
        let more : IsUtf8 (escaped default_writer rest) = again [] parts.1 in
        rw e (subst (λ x. IsUtf8 (front ++ 34 ∷ x ∷ escaped default_writer rest)) (sym is)
        (IsUtf8-append front (34 ∷ 34 ∷ escaped default_writer rest) parts.0
        (IsUtf8-append (34 ∷ []) (34 ∷ escaped default_writer rest) (ascii_one 34 (omega arith))
        (IsUtf8-append (34 ∷ []) (escaped default_writer rest) (ascii_one 34 (omega arith)) more))))
    by again false e =
        rw e (subst IsUtf8 (append_assoc front (b ∷ []) (escaped default_writer rest))
        (again (front ++ b ∷ []) (subst IsUtf8 (sym (append_assoc front (b ∷ []) rest)) u)))

-- a field is written as text
field_is_text : (field : List ℕ) → IsUtf8 field → IsUtf8 (field_text default_writer field)
field_is_text field u = by (list_any (needs_byte default_writer) field) refl
  where
    by : (quotes : Bool) → list_any (needs_byte default_writer) field ≡ quotes → IsUtf8 (field_text default_writer field)
    by true e =
        rw e (IsUtf8-append (34 ∷ []) (escaped default_writer field ++ 34 ∷ []) (ascii_one 34 (omega arith))
        (IsUtf8-append (escaped default_writer field) (34 ∷ []) (escaped_text [] field u) (ascii_one 34 (omega arith))))
    by false e = rw e u

-- each field of a record is text
abbrev pub AreText : List (List ℕ) → Type 0
AreText fields = All (λ field. IsUtf8 field) fields

fields_are_text : (fields : List (List ℕ)) → AreText fields → IsUtf8 (fields_text default_writer fields)
unfolding fields_text
fields_are_text [] all = IsUtf8-nil
fields_are_text (field ∷ rest) all =
    IsUtf8-append (44 ∷ []) (field_text default_writer field ++ fields_text default_writer rest) (ascii_one 44 (omega arith))
    (IsUtf8-append (field_text default_writer field) (fields_text default_writer rest) (field_is_text field (All-head (λ f. IsUtf8 f) field rest all))
    (fields_are_text rest (All-tail (λ f. IsUtf8 f) field rest all)))

-- a record of several fields is written as text
pub row_is_text : (first second : List ℕ) (rest : List (List ℕ)) → AreText (first ∷ second ∷ rest) → IsUtf8 (row_text default_writer (first ∷ second ∷ rest))
unfolding is_blank
row_is_text first second rest all =
    IsUtf8-append (field_text default_writer first ++ fields_text default_writer (second ∷ rest)) (10 ∷ [])
    (IsUtf8-append (field_text default_writer first) (fields_text default_writer (second ∷ rest))
    (field_is_text first (All-head (λ f. IsUtf8 f) first (second ∷ rest) all))
    (fields_are_text (second ∷ rest) (All-tail (λ f. IsUtf8 f) first (second ∷ rest) all)))
    (ascii_one 10 (omega arith))

-- ---- records

-- the text of a record has a byte
row_some : (fields : List (List ℕ)) → 1 ≤ length (row_text default_writer fields)
row_some fields =
    let blank : List ℕ = if is_blank default_writer fields then 34 ∷ 34 ∷ [] else [] in
    omega (arith, length-append (row_body default_writer fields) (blank ++ 10 ∷ []), length-append blank (10 ∷ []))

-- there are at most as many records as bytes
rows_few : (rows : List (List (List ℕ))) → length rows ≤ length (rows_text rows)
unfolding rows_text
rows_few [] = omega arith
rows_few (row ∷ rows) = omega (arith, length-append (row_text default_writer row) (rows_text rows), row_some row, rows_few rows)

-- records that are written are read, by any count that is large enough
read_within : (rows : List (List (List ℕ))) (n : ℕ) → length rows ≤ n → records_from default_config n st.StartRecord (rows_text rows) ≡ map read_back rows
unfolding records_from rows_text next_record
read_within [] zero h = refl
read_within [] (suc n) h = refl
read_within (row ∷ rows) zero h = absurd (omega arith)
read_within (row ∷ rows) (suc n) h = rw (read-write row (rows_text rows)) (ap (λ more. read_back row ∷ more) (read_within rows n (omega arith)))

-- what is written is read
pub written_is_read : (rows : List (List (List ℕ))) → records default_config (rows_text rows) ≡ map read_back rows
written_is_read rows = read_within rows (length (rows_text rows) + 1) (omega (arith, rows_few rows))
