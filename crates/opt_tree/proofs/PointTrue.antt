-- A point that was found without a fault lies in the ranges, meets the rows and has the value that the verdict names.
use Rattle.std.proofs.Common.{◌≡◌, ℕ, zero, suc, ◌+◌, ◌<◌, Bool, true, false, cond, ◌&&◌, List, [], ◌∷◌, length, Option, Some, None, Ok, ℤ, ◌≤ℤ◌, int_le, All, refl, ap, ◌∙◌, arith}
use Rattle.std.specs.List.{range_with_len}
use Rattle.std.proofs.lemmas.Int.{ints}
use Rattle.std.proofs.lemmas.List.{length-map}
use Rattle.std.proofs.lemmas.Bool.Decides.{Decides-int_eq}
use Rattle.opt_base.specs.Answers.{◌>>=◌}
use Rattle.opt_base.specs.declared.verdict.Verdict.{Verdict}
use Rattle.opt_sums.specs.Sums.{at}
use Rattle.opt_sums.specs.Entries.{coef}
use Rattle.opt_system.specs.Ranges.{IsWithin}
use Rattle.opt_system.specs.Rows.{Holds}
use Rattle.opt_system.specs.Broken.{first_broken_of}
use Rattle.opt_system.specs.Systems.{System, IsLimited, IsFirstBroken, value}
use Rattle.opt_system.proofs.BrokenLemmas.{first_broken_of-means}
use Rattle.std.specs.Prelude.{MatchOption}
use Rattle.opt_tree.specs.declared.check_fault.CheckFault.{CheckFault}
use Rattle.opt_tree.specs.declared.check_fault.CheckFault.TheVariants.{PlanRange, PlanBroken}
use Rattle.opt_tree.specs.Certificates.{named_value, point_of}
use Rattle.opt_tree.specs.Verdicts.{Attains}
use Rattle.opt_tree.specs.Shown.{first_outside_from, first_outside, first_unknown, unless_found, names_value, look_objective, look_range, look_entries}
use Rattle.opt_tree.proofs.Steps.{then_ok, ok_if, both_true}

-- nothing was found, and the value is the one that was handed on
found_none : {A : Type 0} (r : Option ℕ) (f : ℕ → CheckFault) (a b : A) → unless_found r f a ≡ Ok b → (r ≡ None) × (a ≡ b)
found_none None f a b h = (refl, cc)
found_none (Some n) f a b h = cc

-- ---- the ranges
none_if : (t : Bool) (r : Option ℕ) (j : ℕ) → cond t r (Some j) ≡ None → (t ≡ true) × (r ≡ None)
none_if true r j h = (refl, h)
none_if false r j h = cc

-- each value from here on lies in its range
pub record LieWithin (lows highs x : List ℤ) : Type 0 where
  pub above : (j : ℕ) → j < length x → at lows j ≤ℤ at x j
  pub below : (j : ℕ) → j < length x → at x j ≤ℤ at highs j

within : (j : ℕ) (lows highs x : List ℤ) → length x ≡ length lows → length x ≡ length highs → first_outside_from j lows highs x ≡ None → LieWithin lows highs x
within j [] highs [] s t h = record { above = λ i k. absurd (omega arith); below = λ i k. absurd (omega arith) }
within j (l ∷ lows) highs [] s t h = absurd (omega arith)
within j [] highs (v ∷ x) s t h = absurd (omega arith)
within j (l ∷ lows) [] (v ∷ x) s t h = absurd (omega arith)
within j (l ∷ lows) (u ∷ highs) (v ∷ x) s t h =
    let p : (int_le l v && int_le v u ≡ true) × (first_outside_from (j + 1) lows highs x ≡ None) = none_if (int_le l v && int_le v u) (first_outside_from (j + 1) lows highs x) j h in
    let q : (int_le l v ≡ true) × (int_le v u ≡ true) = both_true (int_le l v) (int_le v u) p.0 in
    let rest : LieWithin lows highs x = within (j + 1) lows highs x (omega arith) (omega arith) p.1 in
    record { above = from_above l v lows x (le_of l v q.0) rest.above; below = from_below u v highs x (le_of v u q.1) rest.below }
  where
    le_of : (a b : ℤ) → int_le a b ≡ true → a ≤ℤ b
    le_of a b h = grind (arith, ints)

    from_above : (l v : ℤ) (lows x : List ℤ) → l ≤ℤ v → ((j : ℕ) → j < length x → at lows j ≤ℤ at x j) → (j : ℕ) → j < suc (length x) → at (l ∷ lows) j ≤ℤ at (v ∷ x) j
    from_above l v lows x h k zero below = h
    from_above l v lows x h k (suc j) below = k j (omega arith)

    from_below : (u v : ℤ) (highs x : List ℤ) → v ≤ℤ u → ((j : ℕ) → j < length x → at x j ≤ℤ at highs j) → (j : ℕ) → j < suc (length x) → at (v ∷ x) j ≤ℤ at (u ∷ highs) j
    from_below u v highs x h k zero below = h
    from_below u v highs x h k (suc j) below = k j (omega arith)

length-range : (a n : ℕ) → length (range_with_len a n) ≡ n
length-range a zero = refl
length-range a (suc n) = omega (arith, length-range (a + 1) n)

pub length-point_of : (n : ℕ) (entries : List (ℕ × ℤ)) → length (point_of n entries) ≡ n
length-point_of n entries = length-map (range_with_len 0 n) (coef entries) ∙ length-range 0 n

in_range : (s : System) (entries : List (ℕ × ℤ)) → IsLimited s → first_outside s.root (point_of (length s.cost) entries) ≡ None → IsWithin s.root (point_of (length s.cost) entries)
in_range s entries limited none =
    let each : length (point_of (length s.cost) entries) ≡ length s.cost = length-point_of (length s.cost) entries in
    let lies : LieWithin s.root.low s.root.high (point_of (length s.cost) entries) =
    within 0 s.root.low s.root.high (point_of (length s.cost) entries) (omega (arith, limited.small.cost_each)) (omega (arith, limited.small.cost_each, limited.ordered.same_length)) none
    in
    record { same_length = omega (arith, limited.small.cost_each); above = lies.above; below = lies.below }

-- ---- the rows
rows_by : (s : System) (x : List ℤ) (r : Option ℕ) → MatchOption r (All (λ row. Holds row x) s.rows) (IsFirstBroken s.rows x) → r ≡ None → All (λ row. Holds row x) s.rows
rows_by s x None means h = means
rows_by s x (Some i) means h = cc

-- ---- what the verdict names
named : (r : Option ℤ) (o : ℤ) → names_value r o ≡ true → r ≡ Some o
named None o h = cc
named (Some a) o h = ap Some ((Decides-int_eq a o).0 h)

pub record Found (s : System) (v : Verdict) (entries : List (ℕ × ℤ)) (o : ℤ) : Type 0 where
  pub attains : Attains s (point_of (length s.cost) entries) o
  pub named : named_value v ≡ Some o

pub looked_entries : (s : System) (v : Verdict) (entries : List (ℕ × ℤ)) (o : ℤ) → IsLimited s → look_entries s v entries ≡ Ok o → Found s v entries o
looked_entries s v entries o limited h =
    let x = point_of (length s.cost) entries in
    let p : (y : List ℤ) × (look_range s entries ≡ Ok y) × ((unless_found (first_broken_of s.rows y) PlanBroken y >>= λ z. look_objective v (value s z)) ≡ Ok o) =
    then_ok (look_range s entries) (λ y. unless_found (first_broken_of s.rows y) PlanBroken y >>= λ z. look_objective v (value s z)) o h
    in
    let q : (z : List ℤ) × (unless_found (first_broken_of s.rows p.0) PlanBroken p.0 ≡ Ok z) × (look_objective v (value s z) ≡ Ok o) =
    then_ok (unless_found (first_broken_of s.rows p.0) PlanBroken p.0) (λ z. look_objective v (value s z)) o p.2
    in
    let r : (y : List ℤ) × (unless_found (first_outside s.root x) PlanRange x ≡ Ok y) × (unless_found (first_unknown (length s.cost) entries) PlanRange y ≡ Ok p.0) =
    then_ok (unless_found (first_outside s.root x) PlanRange x) (λ y. unless_found (first_unknown (length s.cost) entries) PlanRange y) p.0 p.1
    in
    let outside : (first_outside s.root x ≡ None) × (x ≡ r.0) = found_none (first_outside s.root x) PlanRange x r.0 r.1 in
    let unknown : (first_unknown (length s.cost) entries ≡ None) × (r.0 ≡ p.0) = found_none (first_unknown (length s.cost) entries) PlanRange r.0 p.0 r.2 in
    let broken : (first_broken_of s.rows p.0 ≡ None) × (p.0 ≡ q.0) = found_none (first_broken_of s.rows p.0) PlanBroken p.0 q.0 q.1 in
    let same : x ≡ p.0 = outside.1 ∙ unknown.1 in
    let none : first_broken_of s.rows x ≡ None = ap (first_broken_of s.rows) same ∙ broken.0 in
    let both : (names_value (named_value v) (value s q.0) ≡ true) × (value s q.0 ≡ o) = ok_if (names_value (named_value v) (value s q.0)) (value s q.0) o _ q.2 in
    record {
      attains = record {
        meets = record { in_range = in_range s entries limited outside.0; rows_hold = rows_by s x (first_broken_of s.rows x) (first_broken_of-means s.rows x) none };
        value_is = ap (value s) (same ∙ broken.1) ∙ both.1;
      };
      named = named (named_value v) (value s q.0) both.0 ∙ ap Some both.1;
    }
