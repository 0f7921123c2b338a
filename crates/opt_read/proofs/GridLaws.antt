-- How many records a table has, how many fields each has, and that these are text without a space or a tab at its ends.
use Rattle.std.proofs.Common.{◌≡◌, ◌<◌, ◌≤◌, ◌+◌, ℕ, zero, suc, List, [], ◌∷◌, ◌++◌, map, length, slice_index_or, IsUtf8, refl, subst, inl, inr, zero-add, Result, Ok, ap, sym, ◌∙◌, arith}
use Rattle.std.specs.Prelude.{All}
use Rattle.std.specs.Str.{is_utf8}
use Rattle.std.proofs.lemmas.Bool.{cases_Bool}
use Rattle.std.proofs.lemmas.List.{get_or-drop, get_or-map, length-append, length-drop, length-map}
use Rattle.std.proofs.lemmas.List.Elements.{All-tail}
use Rattle.std.proofs.lemmas.Str.{IsUtf8-from_is_utf8, IsUtf8-nil}
use Rattle.csv.specs.Reading.{default_config, records, strip_bom}
use Rattle.csv.specs.Records.{AllText}
use Rattle.csv.specs.declared.parser.State.TheVariants as st
use Rattle.opt_base.specs.Answers.{each, ◌>>=◌}
use Rattle.opt_base.specs.declared.refusal.File.{File}
use Rattle.opt_base.specs.declared.refusal.Refusal.{Refusal}
use Rattle.opt_model.specs.Columns.{names_of}
use Rattle.opt_read.specs.Grid.{body_of, even_table, evenness_of, grid_of, header_of, projection, place_of, places_of, rows_of, without_blanks, table_of}
use Rattle.opt_read.specs.Reading.{text_of}
use Rattle.opt_read.proofs.ReadLemmas.{went_on}
use Rattle.opt_read.proofs.RecordLemmas.{records-few}
use Rattle.opt_read.proofs.StripLemmas.{without_blanks-stripped}
use Rattle.opt_read.proofs.TextLemmas.{field-holds, records-text, strip_bom-text, without_blanks-text}

abbrev pub with_place : File → List (List ℕ) → ℕ → List ℕ → List ℕ → Result (List ℕ) Refusal
with_place file header column name places = place_of file header column name >>= λ place. Ok (places ++ place ∷ [])

-- a place for each name
pub places-length : (file : File) (header names : List (List ℕ)) (column : ℕ) (made places : List ℕ) → each (with_place file header) column made names ≡ Ok places → length places ≡ length made + length names
places-length file header [] column made places e = let all : made ≡ places = cc in omega (arith, ap length all)
places-length file header (name ∷ names) column made places e =
    let w = went_on (with_place file header column name made) (λ more. each (with_place file header) (column + 1) more names) places e in
    let p = went_on (place_of file header column name) (λ place. Ok (made ++ place ∷ [])) w.0 w.1 in
    let more : made ++ p.0 ∷ [] ≡ w.0 = cc (p.2) in
    omega (arith, places-length file header names (column + 1) w.0 places w.2, ap length more, length-append made (p.0 ∷ []))

text-is : (file : File) (bytes text : List ℕ) → text_of file bytes ≡ Ok text → bytes ≡ text
text-is file bytes text e = elim (cases_Bool (is_utf8 bytes)) [
  | inl text_holds ↦ cc (rw text_holds at e)
  | inr other ↦ cc (rw other at e)
]

-- what a table that is read is
grid-is : (file : File) (bytes columns : List ℕ) (rows : List (List (List ℕ))) → grid_of file bytes columns ≡ Ok rows
    → (places : List ℕ) × (places_of file (header_of bytes) (names_of columns) ≡ Ok places) × (projection (body_of bytes) places ≡ rows)
unfolding grid_of
grid-is file bytes columns rows e =
    let text = went_on (text_of file bytes) (λ text. table_of file (header_of text) (body_of text) (names_of columns)) rows e in
    let places = went_on (places_of file (header_of text.0) (names_of columns)) (even_table file (length (header_of text.0)) (body_of text.0)) rows text.2 in
    let even = went_on (evenness_of file (length (header_of text.0)) (body_of text.0)) (λ _. Ok (projection (body_of text.0) places.0)) rows places.2 in
    let same : projection (body_of text.0) places.0 ≡ rows = cc (even.2) in
    subst (λ (t : List ℕ). (places : List ℕ) × (places_of file (header_of t) (names_of columns) ≡ Ok places) × (projection (body_of t) places ≡ rows)) (sym (text-is file bytes text.0 text.1)) (places.0, places.1, same)

-- a table has at most as many records as its file has bytes
pub grid-few : (file : File) (bytes columns : List ℕ) (rows : List (List (List ℕ))) → grid_of file bytes columns ≡ Ok rows → length rows ≤ length bytes
grid-few file bytes columns rows e =
    let g = grid-is file bytes columns rows e in
    let seen = length-map (body_of bytes) (λ (row : List (List ℕ)). map (λ place. slice_index_or row place []) g.0) in
    let below = length-drop 1 (rows_of bytes) in
    let every = length-map (records default_config (strip_bom bytes)) (map without_blanks) in
    omega (arith, ap length g.2, seen, below, every, records-few bytes)

-- each record has a field for each column
pub grid-even : (file : File) (bytes columns : List ℕ) (rows : List (List (List ℕ))) → grid_of file bytes columns ≡ Ok rows → All (λ row. length row ≡ length (names_of columns)) rows
grid-even file bytes columns rows e =
    let g = grid-is file bytes columns rows e in
    subst (λ (rs : List (List (List ℕ))). All (λ row. length row ≡ length (names_of columns)) rs) g.2 (λ k d within.
    let inside : k < length (body_of bytes) = omega (arith, length-map (body_of bytes) (λ (row : List (List ℕ)). map (λ place. slice_index_or row place []) g.0)) in
    ap length (get_or-map (λ (row : List (List ℕ)). map (λ place. slice_index_or row place []) g.0) (body_of bytes) k [] d inside)
    ∙ (length-map g.0 (λ place. slice_index_or (slice_index_or (body_of bytes) k []) place []) ∙ places-length file (header_of bytes) (names_of columns) 1 [] g.0 g.1 ∙ zero-add _))

-- the bytes of a table that is read are text
text-holds : (file : File) (bytes text : List ℕ) → text_of file bytes ≡ Ok text → IsUtf8 bytes
text-holds file bytes text e = elim (cases_Bool (is_utf8 bytes)) [
  | inl text_holds ↦ IsUtf8-from_is_utf8 bytes text_holds
  | inr other ↦ cc (rw other at e)
]

bytes-text : (file : File) (bytes columns : List ℕ) (rows : List (List (List ℕ))) → grid_of file bytes columns ≡ Ok rows → IsUtf8 bytes
unfolding grid_of
bytes-text file bytes columns rows e =
    let text = went_on (text_of file bytes) (λ text. table_of file (header_of text) (body_of text) (names_of columns)) rows e in
    text-holds file bytes text.0 text.1

-- what holds of the empty field and of each stripped field of text, holds of each field of a table, also where there is none
module _ (P : List ℕ → Type 0) (none : P []) (one : (field : List ℕ) → IsUtf8 field → P (without_blanks field)) where
  of_records : (rows : List (List (List ℕ))) (index place : ℕ) → All AllText rows → P (slice_index_or (slice_index_or (map (map without_blanks) rows) index []) place [])
  of_records [] index place texts = none
  of_records (row ∷ rows) zero place texts = field-holds P none one row place (texts 0 row (omega arith))
  of_records (row ∷ rows) (suc index) place texts = of_records rows index place (All-tail AllText row rows texts)

  of_body : (bytes : List ℕ) → IsUtf8 bytes → (index place : ℕ) → P (slice_index_or (slice_index_or (body_of bytes) index []) place [])
  of_body bytes text index place =
      let read : List (List (List ℕ)) = records default_config (strip_bom bytes) in
      let texts : All AllText read = records-text (length (strip_bom bytes) + 1) st.StartRecord (strip_bom bytes) (strip_bom-text bytes text) in
      subst (λ (row : List (List ℕ)). P (slice_index_or row place [])) (sym (get_or-drop 1 (rows_of bytes) index [])) (of_records read (1 + index) place texts)

  of_places : (row : List (List ℕ)) → ((place : ℕ) → P (slice_index_or row place [])) → (places : List ℕ) (k : ℕ) → P (slice_index_or (map (λ place. slice_index_or row place []) places) k [])
  of_places row holds [] k = none
  of_places row holds (place ∷ places) zero = holds place
  of_places row holds (place ∷ places) (suc k) = of_places row holds places k

  of_projection : (rows : List (List (List ℕ))) → ((index place : ℕ) → P (slice_index_or (slice_index_or rows index []) place []))
      → (places : List ℕ) (index k : ℕ) → P (slice_index_or (slice_index_or (projection rows places) index []) k [])
  of_projection [] holds places index k = none
  of_projection (row ∷ rows) holds places zero k = of_places row (holds 0) places k
  of_projection (row ∷ rows) holds places (suc index) k = of_projection rows (λ i. holds (suc i)) places index k

  of_grid : (file : File) (bytes columns : List ℕ) (rows : List (List (List ℕ))) → grid_of file bytes columns ≡ Ok rows → (index place : ℕ) → P (slice_index_or (slice_index_or rows index []) place [])
  of_grid file bytes columns rows e index place =
      let g = grid-is file bytes columns rows e in
      let text : IsUtf8 bytes = bytes-text file bytes columns rows e in
      subst (λ (rs : List (List (List ℕ))). P (slice_index_or (slice_index_or rs index []) place [])) g.2 (of_projection (body_of bytes) (of_body bytes text) g.0 index place)

-- each field is text
pub grid-text : (file : File) (bytes columns : List ℕ) (rows : List (List (List ℕ))) → grid_of file bytes columns ≡ Ok rows → (index place : ℕ) → IsUtf8 (slice_index_or (slice_index_or rows index []) place [])
grid-text = of_grid IsUtf8 IsUtf8-nil without_blanks-text

-- each field has no space and no tab at its ends
pub grid-stripped : (file : File) (bytes columns : List ℕ) (rows : List (List (List ℕ))) → grid_of file bytes columns ≡ Ok rows
    → (index place : ℕ) → without_blanks (slice_index_or (slice_index_or rows index []) place []) ≡ slice_index_or (slice_index_or rows index []) place []
grid-stripped = of_grid (λ field. without_blanks field ≡ field) refl (λ field text. without_blanks-stripped field)
