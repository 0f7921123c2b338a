-- That the functions that compute whether a point meets rows say what the relations do.
use Rattle.std.proofs.Common.{◌≡◌, ◌⊎◌, inl, inr, ℕ, ◌<◌, ◌≤◌, Bool, true, false, cond, not, Option, Some, None, List, [], length, get_or, ℤ, All, Decides, MatchOption, nat_lt, refl, ap, sym, ◌∙◌, arith}
use Rattle.std.specs.List.{position_or_len}
use Rattle.std.proofs.lemmas.Int.{ints}
use Rattle.std.proofs.lemmas.List.{get_or_default}
use Rattle.std.proofs.lemmas.List.Sums.{position_or_len_is, fails_before_first, passes_at_first}
use Rattle.std.proofs.lemmas.Bool.Decides.{Decides-int_eq, nat_tests}
use Rattle.opt_sums.specs.Entries.{dot}
use Rattle.opt_system.specs.declared.rows.RowKind.{RowKind}
use Rattle.opt_system.specs.declared.rows.RowKind.TheVariants.{Ge, Eq}
use Rattle.opt_system.specs.declared.rows.Row.{Row}
use Rattle.opt_system.specs.Rows.{Holds, Stands}
use Rattle.opt_system.specs.Broken.{stands, meets_row, first_broken_of}
use Rattle.opt_system.specs.Systems.{IsFirstBroken, row_at}

stands-Decides : (kind : RowKind) (left right : ℤ) → Decides (stands kind left right) (Stands kind left right)
stands-Decides Ge left right = (λ e. grind (arith, ints), λ h. grind (arith, ints))
stands-Decides Eq left right = Decides-int_eq left right

pub meets_row-Decides : (row : Row) (x : List ℤ) → Decides (meets_row row x) (Holds row x)
meets_row-Decides row x = stands-Decides row.kind (dot row.terms x) row.right_hand_side

-- the row is broken
abbrev breaks : List ℤ → Row → Bool
breaks x row = not (meets_row row x)

kept_by : (row : Row) (x : List ℤ) → Holds row x → breaks x row ≡ false
kept_by row x h = ap not ((meets_row-Decides row x).1 h)

not_true : (b : Bool) → (b ≡ true → ⊥) → not b ≡ true
not_true true h = absurd (h refl)
not_true false h = refl

from_not : (b : Bool) → not b ≡ false → b ≡ true
from_not true h = refl
from_not false h = cc

apart : (b : Bool) → not b ≡ true → b ≡ true → ⊥
apart true h k = cc
apart false h k = cc

broken_by : (row : Row) (x : List ℤ) → (Holds row x → ⊥) → breaks x row ≡ true
broken_by row x h = not_true (meets_row row x) (λ e. h ((meets_row-Decides row x).0 e))

-- the row at k, whatever stands past the end
row_default : (rows : List Row) (k : ℕ) (d : Row) → k < length rows → get_or rows k d ≡ row_at rows k
row_default rows k d h = get_or_default rows k d _ h

some_by : (n i l : ℕ) → n ≡ i → i < l → cond (nat_lt n l) (Some n) None ≡ Some i
some_by n i l e h = grind (arith, nat_tests)

none_by : (n l : ℕ) → n ≡ l → cond (nat_lt n l) (Some n) None ≡ None
none_by n l e = grind (arith, nat_tests)

pub first_broken_of-at : (rows : List Row) (x : List ℤ) (i : ℕ) → IsFirstBroken rows x i → first_broken_of rows x ≡ Some i
first_broken_of-at rows x i first =
    some_by (position_or_len (breaks x) rows) i (length rows)
    (position_or_len_is (breaks x) rows i (row_at [] 0) (omega (arith, first.in_list))
    (λ k h. ap (breaks x) (row_default rows k (row_at [] 0) (omega (arith, first.in_list))) ∙ kept_by (row_at rows k) x (first.before k h))
    (λ h. ap (breaks x) (row_default rows i (row_at [] 0) h) ∙ broken_by (row_at rows i) x first.broken))
    first.in_list

pub first_broken_of-none : (rows : List Row) (x : List ℤ) → All (λ row. Holds row x) rows → first_broken_of rows x ≡ None
first_broken_of-none rows x all =
    none_by (position_or_len (breaks x) rows) (length rows)
    (position_or_len_is (breaks x) rows (length rows) (row_at [] 0) (omega arith)
    (λ k h. kept_by (get_or rows k (row_at [] 0)) x (all k (row_at [] 0) h))
    (λ h. absurd (omega arith)))

-- what is the first broken row by the relation is what the function says
pub first_broken_is : (rows : List Row) (x : List ℤ) (r : Option ℕ) → MatchOption r (All (λ row. Holds row x) rows) (IsFirstBroken rows x) → r ≡ first_broken_of rows x
first_broken_is rows x None all = sym (first_broken_of-none rows x all)
first_broken_is rows x (Some i) first = sym (first_broken_of-at rows x i first)

-- and what the function says is so by the relation
pub first_broken_of-means : (rows : List Row) (x : List ℤ) → MatchOption (first_broken_of rows x) (All (λ row. Holds row x) rows) (IsFirstBroken rows x)
first_broken_of-means rows x =
    elim (below_or_not (position_or_len (breaks x) rows) (length rows)) [
      | inl h ↦
          let P : Option ℕ → Type 0 = λ r. MatchOption r (All (λ row. Holds row x) rows) (IsFirstBroken rows x) in
          rw (some_by (position_or_len (breaks x) rows) (position_or_len (breaks x) rows) (length rows) refl h)
          (record {
            in_list = h;
            broken = λ holds. apart (meets_row (row_at rows (position_or_len (breaks x) rows)) x)
                (passes_at_first (breaks x) rows _ h)
                ((meets_row-Decides (row_at rows (position_or_len (breaks x) rows)) x).1 holds);
            before = λ k below. (meets_row-Decides (row_at rows k) x).0 (from_not (meets_row (row_at rows k) x) (fails_before_first (breaks x) rows k _ below));
          })
      | inr h ↦
          rw (none_past (position_or_len (breaks x) rows) (length rows) h)
          (λ k d below. (meets_row-Decides (get_or rows k d) x).0 (from_not (meets_row (get_or rows k d) x) (fails_before_first (breaks x) rows k d (omega arith))))
    ]
  where
    below_or_not : (n l : ℕ) → (n < l) ⊎ (l ≤ n)
    below_or_not n l = grind arith

    none_past : (n l : ℕ) → l ≤ n → cond (nat_lt n l) (Some n) None ≡ None
    none_past n l h = grind (arith, nat_tests)

pub all_by_number : (rows : List Row) (x : List ℤ) → ((k : ℕ) → k < length rows → Holds (row_at rows k) x) → All (λ row. Holds row x) rows
all_by_number rows x h k d below = rw (row_default rows k d below) (h k below)
