-- The table that a plan file is, once it was written.
use Rattle.std.proofs.Common.{◌≡◌, ◌+◌, ◌==◌, ℕ, suc, true, not, cond, List, [], ◌∷◌, ◌++◌, map, drop, length, All, IsUtf8, Some, None, Ok, Err, refl, ap, ◌∙◌, arith, position, eq-eqb}
use Rattle.std.specs.Prelude.{slice_index_or, nat_lt, if◌then◌else◌}
use Rattle.std.specs.List.{position_or_len}
use Rattle.std.proofs.lemmas.Bool.{le-ltb}
use Rattle.std.proofs.lemmas.List.Elements.{All-head, All-tail}
use Rattle.std.proofs.lemmas.Str.{is_utf8-from_IsUtf8}
use Rattle.csv.specs.Reading.{default_config, records, strip_bom}
use Rattle.csv.specs.Writing.{row_text, default_writer, read_back}
use Rattle.csv.proofs.OnLiterals.{csv_on_literals}
use Rattle.csv.proofs.RoundTrip.{rows_text}
use Rattle.opt_base.specs.Answers.{◌>>=◌}
use Rattle.opt_base.specs.Refusals.{refusal_of_file}
use Rattle.opt_base.specs.declared.refusal.File.TheVariants as file
use Rattle.opt_base.specs.declared.refusal.Kind.TheVariants.{NotUtf8}
use Rattle.opt_model.specs.Columns.{column_names, columns_of, names_of}
use Rattle.opt_read.specs.Grid.{without_blanks, rows_of, evenness_of, places_of, projection, even_table, table_of, text_table_of, grid_of}
use Rattle.opt_read.specs.Reading.{text_of}
use Rattle.opt_report.proofs.WrittenText.{written_is_read}

-- the names of the columns
abbrev pub header : List (List ℕ)
header = column_names file.Plan

-- a record of five fields that keep their bytes where blanks are dropped
pub record IsPlain (row : List (List ℕ)) : Type 0 where
  pub five : length row ≡ 5
  pub stays : map without_blanks row ≡ row

places : List ℕ
places = 0 ∷ 1 ∷ 2 ∷ 3 ∷ 4 ∷ []

places_are : (format : ℕ) → places_of file.Plan header (names_of (columns_of file.Plan format)) ≡ Ok (0 ∷ 1 ∷ 2 ∷ 3 ∷ 4 ∷ [])
places_are format = refl

header_stays : map without_blanks header ≡ header
header_stays = refl

five_of : (row : List (List ℕ)) → length row ≡ 5 → map (λ place. slice_index_or row place []) (0 ∷ 1 ∷ 2 ∷ 3 ∷ 4 ∷ []) ≡ row
five_of (a ∷ b ∷ c ∷ d ∷ e ∷ []) h = refl
five_of (a ∷ b ∷ c ∷ d ∷ e ∷ f ∷ more) h = absurd (omega (arith, h))
five_of [] h = absurd (omega (arith, h))
five_of (a ∷ []) h = absurd (omega (arith, h))
five_of (a ∷ b ∷ []) h = absurd (omega (arith, h))
five_of (a ∷ b ∷ c ∷ []) h = absurd (omega (arith, h))
five_of (a ∷ b ∷ c ∷ d ∷ []) h = absurd (omega (arith, h))

projected : (rows : List (List (List ℕ))) → All IsPlain rows → projection rows (0 ∷ 1 ∷ 2 ∷ 3 ∷ 4 ∷ []) ≡ rows
projected [] all = refl
projected (row ∷ rows) all =
    ap (λ r. r ∷ projection rows (0 ∷ 1 ∷ 2 ∷ 3 ∷ 4 ∷ [])) (five_of row (All-head IsPlain row rows all).five) ∙ ap (λ rs. row ∷ rs) (projected rows (All-tail IsPlain row rows all))

none_uneven : (rows : List (List (List ℕ))) → All IsPlain rows → position_or_len (λ row. not (length row == 5)) rows ≡ length rows
none_uneven [] all = refl
none_uneven (row ∷ rows) all =
    let next : 1 + length rows ≡ suc (length rows) = omega arith in
    let even : (length row == 5) ≡ true = eq-eqb (length row) 5 (All-head IsPlain row rows all).five in
    ap (λ b. cond (not (not b)) (1 + position_or_len (λ r. not (length r == 5)) rows) 0) even
    ∙ (ap (λ n. 1 + n) (none_uneven rows (All-tail IsPlain row rows all)) ∙ next)

even : (rows : List (List (List ℕ))) → All IsPlain rows → evenness_of file.Plan 5 rows ≡ Ok tt
even rows all =
    let none : position (λ row. not (length row == 5)) rows ≡ None =
    ap (λ n. cond (nat_lt n (length rows)) (Some n) None) (none_uneven rows all) ∙ ap (λ b. cond b (Some (length rows)) None) (le-ltb (length rows) (length rows) (omega arith)) in
    rw none refl

stay_all : (rows : List (List (List ℕ))) → All IsPlain rows → map (map without_blanks) (map read_back rows) ≡ rows
stay_all [] all = refl
stay_all (row ∷ rows) all = ap (λ r. r ∷ map (map without_blanks) (map read_back rows)) (one row (All-head IsPlain row rows all)) ∙ ap (λ rs. row ∷ rs) (stay_all rows (All-tail IsPlain row rows all))
  where
    one : (r : List (List ℕ)) → IsPlain r → map without_blanks (read_back r) ≡ r
    one [] is = absurd (omega (arith, is.five))
    one (a ∷ more) is = is.stays

no_mark : (rest : List ℕ) → strip_bom (row_text default_writer header ++ rest) ≡ row_text default_writer header ++ rest
unfolding csv_on_literals
no_mark rest = refl

-- bytes of text are text
text_is : (bytes : List ℕ) → IsUtf8 bytes → text_of file.Plan bytes ≡ Ok bytes
text_is bytes text = ap (λ b. if b then Ok bytes else Err (refusal_of_file file.Plan NotUtf8)) (is_utf8-from_IsUtf8 bytes text)

-- plain records below the names of the columns are read as they were written
pub grid_is : (format : ℕ) (rows : List (List (List ℕ))) (bytes : List ℕ) → bytes ≡ row_text default_writer header ++ rows_text rows → IsUtf8 bytes → All IsPlain rows
    → grid_of file.Plan bytes (columns_of file.Plan format) ≡ Ok rows
unfolding grid_of rows_text
grid_is format rows bytes is text all =
    let read : rows_of bytes ≡ header ∷ rows =
    ap rows_of is
    ∙ (ap (λ b. map (map without_blanks) (records default_config b)) (no_mark (rows_text rows))
    ∙ (ap (map (map without_blanks)) (written_is_read (header ∷ rows))
    ∙ (ap (λ r. r ∷ map (map without_blanks) (map read_back rows)) header_stays ∙ ap (λ rs. header ∷ rs) (stay_all rows all))))
    in
    ap (λ r. r >>= λ read_text. text_table_of file.Plan read_text (columns_of file.Plan format)) (text_is bytes text)
    ∙ (ap (λ rs. table_of file.Plan (slice_index_or rs 0 []) (drop 1 rs) (names_of (columns_of file.Plan format))) read
    ∙ (ap (λ p. p >>= λ ps. even_table file.Plan 5 rows ps) (places_are format)
    ∙ (ap (λ p. p >>= λ u. Ok (projection rows (0 ∷ 1 ∷ 2 ∷ 3 ∷ 4 ∷ []))) (even rows all) ∙ ap Ok (projected rows all))))
