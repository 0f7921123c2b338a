-- The records after the first, read one by one.
use Rattle.std.proofs.Common.{◌≡◌, ◌≢◌, ◌<◌, ◌≤◌, ◌+◌, ◌*◌, ◌==◌, ℕ, Bool, true, false, List, [], ◌∷◌, ◌++◌, map, take, drop, length, get_or, slice_index_or, Some, None, Ok, Err, not, refl, ap, sym, subst, ◌∙◌, arith, inl, inr, append-nil}
use Rattle.std.specs.Prelude.{position}
use Rattle.std.specs.List.{flat_map, position_or_len}
use Rattle.std.proofs.lemmas.Bool.Decides.{nat_tests}
use Rattle.std.proofs.lemmas.Bool.{cases_lt}
use Rattle.std.proofs.lemmas.Grind.{flat_map-append}
use Rattle.std.proofs.lemmas.List.{drop_all, drop_more, length-map, take_more}
use Rattle.std.proofs.lemmas.List.Sums.{position_or_len_is}
use Rattle.std.proofs.lemmas.Simd.{map-map}
use Rattle.std.proofs.Math.Seq.{take-length}
use Rattle.opt_base.specs.Refusals.{refusal_of_record}
use Rattle.opt_base.specs.declared.refusal.File.{File}
use Rattle.opt_base.specs.declared.refusal.Kind.TheVariants.{Uneven}
use Rattle.opt_read.specs.Cells.{records_of}
use Rattle.csv.specs.Reading.{default_config, records, strip_bom}
use Rattle.opt_read.specs.Grid.{body_of, even_table, even_unless, evenness_of, fields_at, first_fields, header_of, places_of, projection, table_of, without_blanks}
use Rattle.opt_read.proofs.CellLemmas.{length-flat, records_of-flat}
use Rattle.opt_read.proofs.GridLemmas.{position-map}

-- the first of the elements that are left, and those after it
pub record Head {A : Type 0} (xs : List A) (i : ℕ) (y : A) (ys : List A) : Type 0 where
  pub within : i < length xs
  pub first : (d : A) → get_or xs i d ≡ y
  pub rest : ys ≡ drop (i + 1) xs

pub head-left : {A : Type 0} (xs : List A) (i : ℕ) (y : A) (ys : List A) → drop i xs ≡ y ∷ ys → Head xs i y ys
head-left xs i y ys e = elim (cases_lt i (length xs)) [
  | inl within ↦
      record {
        within = within;
        first = λ d. let both : get_or xs i d ∷ drop (i + 1) xs ≡ y ∷ ys = sym (drop_more xs i d within) ∙ e in cc;
        rest = let both : get_or xs i y ∷ drop (i + 1) xs ≡ y ∷ ys = sym (drop_more xs i y within) ∙ e in cc;
      }
  | inr past ↦ cc (drop_all i xs past)
]

pub none-left : {A : Type 0} (xs : List A) (i : ℕ) (d : A) → i ≤ length xs → drop i xs ≡ [] → i ≡ length xs
none-left xs i d within e = elim (cases_lt i (length xs)) [
  | inl more ↦ cc (drop_more xs i d more)
  | inr past ↦ omega arith
]

-- a record has not this many fields
abbrev is_uneven : ℕ → List (List ℕ) → Bool
is_uneven width row = not (length row == width)

evenness-is : (file : File) (width : ℕ) (rows : List (List (List ℕ))) → evenness_of file width (map (map without_blanks) rows) ≡ even_unless file (position (is_uneven width) rows)
evenness-is file width rows = ap (even_unless file) (position-map (map without_blanks) (λ row. not (length row == width)) rows ∙ simp length-map)

-- the records before this one have the right number of fields
abbrev pub EvenBelow : ℕ → List (List (List ℕ)) → ℕ → Type 0
EvenBelow width rows i = (k : ℕ) → k < i → length (get_or rows k []) ≡ width

even-test : (width n : ℕ) → n ≡ width → not (n == width) ≡ false
even-test width n e = grind (arith, nat_tests)

uneven-test : (width n : ℕ) → n ≢ width → not (n == width) ≡ true
uneven-test width n e = grind (arith, nat_tests)

pub uneven-refused : (file : File) (width : ℕ) (rows : List (List (List ℕ))) (places : List ℕ) (i : ℕ) → EvenBelow width rows i → i < length rows → length (get_or rows i []) ≢ width
    → even_table file width (map (map without_blanks) rows) places ≡ Err (refusal_of_record file (i + 1) Uneven)
uneven-refused file width rows places i even within uneven =
    let first : position_or_len (is_uneven width) rows ≡ i =
    position_or_len_is (is_uneven width) rows i [] (omega arith) (λ k below. even-test width (length (get_or rows k [])) (even k below)) (λ _. uneven-test width (length (get_or rows i [])) uneven) in
    let found : position (is_uneven width) rows ≡ Some i = rw first (grind (arith, nat_tests)) in
    rw (evenness-is file width rows, found)

pub even-read : (file : File) (width : ℕ) (rows : List (List (List ℕ))) (places : List ℕ) → EvenBelow width rows (length rows)
    → even_table file width (map (map without_blanks) rows) places ≡ Ok (projection (map (map without_blanks) rows) places)
even-read file width rows places even =
    let first : position_or_len (is_uneven width) rows ≡ length rows =
    position_or_len_is (is_uneven width) rows (length rows) [] (omega arith) (λ k below. even-test width (length (get_or rows k [])) (even k below)) (λ past. absurd (omega arith)) in
    let none : position (is_uneven width) rows ≡ None = rw first (grind (arith, nat_tests)) in
    rw (evenness-is file width rows, none)

pub even-more : (width : ℕ) (rows : List (List (List ℕ))) (i : ℕ) → EvenBelow width rows i → length (get_or rows i []) ≡ width → EvenBelow width rows (i + 1)
even-more width rows i below here k within = elim (cases_lt k i) [
  | inl before ↦ below k before
  | inr last ↦ subst (λ n. length (get_or rows n []) ≡ width) (omega arith) here
]

-- one record more
pub fields-more : (places : List ℕ) (rows : List (List (List ℕ))) (i : ℕ) (d : List (List ℕ)) → i < length rows
    → flat_map (fields_at places) (take (i + 1) rows) ≡ flat_map (fields_at places) (take i rows) ++ fields_at places (get_or rows i d)
fields-more places rows i d within =
    ap (flat_map (fields_at places)) (take_more rows i d within)
    ∙ (flat_map-append (fields_at places) (take i rows) (get_or rows i d ∷ []) ∙ ap (λ more. flat_map (fields_at places) (take i rows) ++ more) (append-nil (fields_at places (get_or rows i d))))

width-is : (places : List ℕ) (row : List (List ℕ)) → length (fields_at places row) ≡ length places
width-is places row = length-map places (λ place. slice_index_or (map without_blanks row) place [])

-- all fields make the table
pub all-fields : (places : List ℕ) (rows : List (List (List ℕ))) (count : ℕ) (fields : List (List ℕ)) → count ≡ length rows → fields ≡ flat_map (fields_at places) (take count rows)
    → (length fields ≡ count * length places) × (records_of (length places) count fields ≡ projection (map (map without_blanks) rows) places)
all-fields places rows count fields counted made =
    let whole : fields ≡ flat_map (fields_at places) rows = made ∙ ap (flat_map (fields_at places)) (ap (λ n. take n rows) counted ∙ take-length rows) in (
      ap length whole ∙ (length-flat (fields_at places) (length places) rows (width-is places) ∙ ap (λ n. n * length places) (sym counted)),
      rw (whole, counted) (records_of-flat (fields_at places) (length places) rows (width-is places) ∙ sym (map-map (λ (row : List (List ℕ)). map (λ place. slice_index_or row place []) places) (map without_blanks) rows)),
    )

-- the first record of a text and those after it
header-is : (text : List ℕ) (rows : List (List (List ℕ))) → rows ≡ records default_config (strip_bom text) → first_fields rows ≡ header_of text
header-is text rows read = first rows ∙ ap (λ (all : List (List (List ℕ))). slice_index_or (map (map without_blanks) all) 0 []) read
  where
    first : (all : List (List (List ℕ))) → map without_blanks (slice_index_or all 0 []) ≡ slice_index_or (map (map without_blanks) all) 0 []
    first [] = refl
    first (row ∷ all) = refl

body-is : (text : List ℕ) (rows : List (List (List ℕ))) → rows ≡ records default_config (strip_bom text) → map (map without_blanks) (drop 1 rows) ≡ body_of text
body-is text rows read = others rows ∙ ap (λ (all : List (List (List ℕ))). drop 1 (map (map without_blanks) all)) read
  where
    others : (all : List (List (List ℕ))) → map (map without_blanks) (drop 1 all) ≡ drop 1 (map (map without_blanks) all)
    others [] = refl
    others (row ∷ all) = refl

-- the table of a text, by what its first record says and the records after it
pub table-is : (file : File) (text : List ℕ) (rows : List (List (List ℕ))) (names : List (List ℕ)) (places : List ℕ) → rows ≡ records default_config (strip_bom text)
    → places_of file (first_fields rows) names ≡ Ok places
    → table_of file (header_of text) (body_of text) names ≡ even_table file (length (slice_index_or rows 0 [])) (map (map without_blanks) (drop 1 rows)) places
table-is file text rows names places read gives =
    rw (← header-is text rows read, ← body-is text rows read, gives, length-map (slice_index_or rows 0 []) without_blanks)
