-- Weights on all variables that suit the values at which these rest: the bound of the multipliers that they hold is the
-- weighted sum of those values.
use Rattle.std.proofs.Common.{◌≡◌, ◌≢◌, ◌⊎◌, inl, inr, ℕ, zero, suc, ◌+◌, ◌-◌, ◌<◌, ◌≤◌, if◌then◌else◌, true, false, List, [], ◌∷◌, length, get_or, ℤ, pos, negsuc, ◌+ℤ◌, ◌*ℤ◌, ◌≤ℤ◌, ◌<ℤ◌, Option, Some, None, All, nat_lt, nat_le, refl, ap, sym, ◌∙◌, arith}
use Rattle.std.specs.Int.{int_min}
use Rattle.std.proofs.lemmas.Int.{ints, clamps}
use Rattle.std.proofs.lemmas.Bool.{lt-ltb, le-ltb, le-leb, lt-leb, cases_lt}
use Rattle.opt_sums.specs.Sums.{at, sum_to}
use Rattle.opt_sums.specs.Entries.{coef, weighted_sum, IsRising, HasNoZero, AllBelow}
use Rattle.std.proofs.lemmas.List.Elements.{All-nil, All-cons, All-head, All-tail}
use Rattle.opt_sums.proofs.Ring.{mul_le, mul_ge}
use Rattle.opt_sums.proofs.SumLemmas.{sum_to-same}
use Rattle.opt_sums.proofs.EntryLemmas.{sum_to-coef, weighted_sum-same, one_other}
use Rattle.opt_sums.proofs.RisingLemmas.{coef-get_or}
use Rattle.opt_system.specs.declared.rows.RowKind.{RowKind}
use Rattle.opt_system.specs.declared.rows.RowKind.TheVariants.{Ge, Eq}
use Rattle.opt_system.specs.Ranges.{Range}
use Rattle.opt_system.specs.Systems.{System, row_at}
use Rattle.opt_bound.specs.Multipliers.{Multipliers, IsAdmissible, IsFitting, MayWeigh}
use Rattle.opt_bound.specs.Bound.{reduced_cost_of, right_hand_side_of, least_of, bound_of}
use Rattle.opt_frac.proofs.Steps.{unit, weighted_sum-unit}
use Rattle.opt_simplex.specs.Variables.{variables_of, low_of, high_of, row_high}
use Rattle.opt_simplex.specs.Tableau.{at_rows}
use Rattle.opt_simplex.proofs.Meeting.{MeetsStart, MeetsStart-column, column, column_quantity, column_row, column_objective, low_of_quantity, high_of_quantity, low_of_row, high_of_row}

-- the weight is at least 0 and the value is the low, or at most 0 and it is the high
abbrev pub Suits : ℤ → ℤ → Option ℤ → ℤ → Type 0
Suits weight low high z = ((z ≡ low) × (pos 0 ≤ℤ weight)) ⊎ ((high ≡ Some z) × (weight ≤ℤ pos 0))

-- ---- sums in two parts: the quantities and the rows' sums
-- f at the numbers below n, else 0
abbrev pub before : ℕ → (ℕ → ℤ) → ℕ → ℤ
before n f k = if nat_lt k n then f k else pos 0

before_is : (n : ℕ) (f : ℕ → ℤ) (k : ℕ) → k < n → before n f k ≡ f k
before_is n f k h = rw (lt-ltb k n h) refl

before_past : (n : ℕ) (f : ℕ → ℤ) (k : ℕ) → n ≤ k → before n f k ≡ pos 0
before_past n f k h = rw (le-ltb k n h) refl

pub weighted_sum-parts : (n : ℕ) (es : List (ℕ × ℤ)) (f : ℕ → ℤ)
    → weighted_sum es f ≡ weighted_sum es (before n f) +ℤ weighted_sum (at_rows n es) (λ i. f (n + i))
weighted_sum-parts n [] f = refl
weighted_sum-parts n (e ∷ es) f =
    elim (cases_lt e.0 n) [
      | inl below ↦
          let gone : nat_le n e.0 ≡ false = lt-leb n e.0 below in
          rw gone (omega (arith, ints, weighted_sum-parts n es f, ap (λ v. e.1 *ℤ v) (before_is n f e.0 below)))
      | inr past ↦
          let there : nat_le n e.0 ≡ true = le-leb n e.0 past in
          let number : n + (e.0 - n) ≡ e.0 = omega arith in
          rw there (omega (arith, ints, weighted_sum-parts n es f, ap (λ v. e.1 *ℤ v) (before_past n f e.0 past), ap (λ k. e.1 *ℤ f k) number))
    ]

-- the part of the quantities, quantity by quantity
pub weighted_sum-before : (n : ℕ) (es : List (ℕ × ℤ)) (f : ℕ → ℤ) → sum_to n (λ j. coef es j *ℤ f j) ≡ weighted_sum es (before n f)
weighted_sum-before n es f =
    sum_to-same n (λ j. coef es j *ℤ f j) (λ j. coef es j *ℤ before n f j) (λ j h. ap (λ v. coef es j *ℤ v) (sym (before_is n f j h)))
    ∙ sum_to-coef n es (before n f) (λ k past. before_past n f k past)

-- what is needed of the weights: they are sorted entries of variables, each suits the value z, and at values that meet
-- the start they sum to q times the objective
pub record AreWeights (p : System) (box : Range) (q : ℤ) (es : List (ℕ × ℤ)) (z : ℕ → ℤ) : Type 0 where
  pub rising : IsRising es
  pub no_zero : HasNoZero es
  pub below : AllBelow (length p.cost + length p.rows) es
  pub suit : (k : ℕ) → k < length p.cost + length p.rows → Suits (coef es k) (low_of (variables_of p box) k) (high_of (variables_of p box) k) (z k)
  pub balanced : (f : ℕ → ℤ) → MeetsStart p f → weighted_sum es f ≡ q *ℤ f (length p.cost + length p.rows)

-- what is needed of the system and the box
pub record IsFitBox (p : System) (box : Range) : Type 0 where
  pub lows : length box.low ≡ length p.cost
  pub highs : length box.high ≡ length p.cost
  pub ordered : (j : ℕ) → j < length p.cost → at box.low j ≤ℤ at box.high j
  pub terms : All (λ row. AllBelow (length p.cost) row.terms) p.rows

-- an entry of a row's sum is an entry of that row's variable
pub All-at_rows : (P : ℕ × ℤ → Type 0) (n : ℕ) (es : List (ℕ × ℤ)) → All (λ e. n ≤ e.0 → P (e.0 - n, e.1)) es → All P (at_rows n es)
All-at_rows P n [] h = All-nil P
All-at_rows P n (e ∷ es) h =
    let more : All P (at_rows n es) = All-at_rows P n es (All-tail (λ d. n ≤ d.0 → P (d.0 - n, d.1)) e es h) in
    elim (cases_lt e.0 n) [
      | inl below ↦ rw (lt-leb n e.0 below) more
      | inr past ↦ rw (le-leb n e.0 past) (All-cons P (e.0 - n, e.1) (at_rows n es) (All-head (λ d. n ≤ d.0 → P (d.0 - n, d.1)) e es h past) more)
    ]

at_rows-below : (n m : ℕ) (es : List (ℕ × ℤ)) → AllBelow (n + m) es → AllBelow m (at_rows n es)
at_rows-below n m es h = All-at_rows (λ e. e.0 < m) n es (λ k d l past. let b : (get_or es k d).0 < n + m = h k d l in omega arith)

-- the weight of a row's sum suits the right-hand side alone
suits_row : (kind : RowKind) (weight right : ℤ) (low z : ℤ) (high : Option ℤ) → low ≡ right → high ≡ row_high kind right
    → Suits weight low high z → z ≡ right
suits_row kind weight right low z high e g (inl s) = s.0 ∙ e
suits_row Ge weight right low z high e g (inr s) = cc (g, s.0)
suits_row Eq weight right low z high e g (inr s) = cc (g, s.0)

-- and is at least 0 on a Ge row
may_weigh : (kind : RowKind) (weight right : ℤ) (low z : ℤ) (high : Option ℤ) → high ≡ row_high kind right → weight ≢ pos 0
    → Suits weight low high z → MayWeigh kind weight
may_weigh Ge weight right low z high g n (inl s) = positive weight s.1 n
  where
    positive : (w : ℤ) → pos 0 ≤ℤ w → w ≢ pos 0 → pos 0 <ℤ w
    positive (pos zero) h k = absurd (k refl)
    positive (pos (suc n)) h k = omega (arith, ints)
    positive (negsuc n) h k = omega (arith, ints)
may_weigh Ge weight right low z high g n (inr s) = absurd (none g s.0)
  where
    none : high ≡ None → high ≡ Some z → ⊥
    none h k = cc
may_weigh Eq weight right low z high g n s = tt

-- the weight of a quantity takes the lesser product with the ends
least_suits : (weight low top z : ℤ) (high : Option ℤ) → low ≤ℤ top → high ≡ Some top → Suits weight low high z
    → int_min (weight *ℤ low) (weight *ℤ top) ≡ weight *ℤ z
least_suits weight low top z high h g (inl s) =
    let order : (weight *ℤ low) ≤ℤ (weight *ℤ top) = mul_le weight low top s.1 h in
    omega (arith, ints, clamps, ap (λ n. weight *ℤ n) s.0)
least_suits weight low top z high h g (inr s) =
    let order : (weight *ℤ top) ≤ℤ (weight *ℤ low) = mul_ge weight low top s.1 h in
    let same : top ≡ z = cc (g, s.0) in
    omega (arith, ints, clamps, ap (λ n. weight *ℤ n) same)

-- the multipliers that the weights hold
abbrev pub held : System → ℤ → List (ℕ × ℤ) → Multipliers
held p q es = record { q = q; entries = at_rows (length p.cost) es }

-- the reduced cost of a quantity is its weight
reduced_cost_is : (p : System) (box : Range) (q : ℤ) (es : List (ℕ × ℤ)) (z : ℕ → ℤ) (j : ℕ) → IsFitBox p box → AreWeights p box q es z
    → j < length p.cost → reduced_cost_of p (held p q es) j ≡ coef es j
reduced_cost_is p box q es z j fit h below =
    let whole : weighted_sum es (column p j) ≡ q *ℤ column p j (length p.cost + length p.rows) =
    h.balanced (column p j) (MeetsStart-column p j fit.terms) in
    let parts : weighted_sum es (column p j)
    ≡ weighted_sum es (before (length p.cost) (column p j)) +ℤ weighted_sum (at_rows (length p.cost) es) (λ i. column p j (length p.cost + i)) =
    weighted_sum-parts (length p.cost) es (column p j) in
    let own : weighted_sum es (before (length p.cost) (column p j)) ≡ coef es j =
    weighted_sum-same es (before (length p.cost) (column p j)) (unit j) (λ k d l. before_column p j (get_or es k d).0 below)
    ∙ weighted_sum-unit es j in
    let rows : weighted_sum (at_rows (length p.cost) es) (λ i. column p j (length p.cost + i)) ≡ weighted_sum (at_rows (length p.cost) es)
    (λ i. coef (row_at p.rows i).terms j) =
    weighted_sum-same (at_rows (length p.cost) es) (λ i. column p j (length p.cost + i)) (λ i. coef (row_at p.rows i).terms j)
    (λ k d l. column_row p j (get_or (at_rows (length p.cost) es) k d).0 (at_rows-below (length p.cost) (length p.rows) es h.below k d l)) in
    omega (arith, ints, ap (λ n. q *ℤ n) (column_objective p j))
  where
    before_column : (p : System) (j k : ℕ) → j < length p.cost → before (length p.cost) (column p j) k ≡ unit j k
    before_column p j k h =
        elim (cases_lt k (length p.cost)) [
          | inl inside ↦ before_is (length p.cost) (column p j) k inside ∙ column_quantity p j k inside
          | inr past ↦ let apart : j ≢ k = omega arith in before_past (length p.cost) (column p j) k past ∙ sym (one_other j k (pos 1) apart)
        ]

-- the bound of the multipliers is the weighted sum of the values
pub bound_is : (p : System) (box : Range) (q : ℤ) (es : List (ℕ × ℤ)) (z : ℕ → ℤ) → IsFitBox p box → AreWeights p box q es z
    → bound_of p box (held p q es) ≡ weighted_sum es z
bound_is p box q es z fit h =
    let quantities : sum_to (length p.cost) (least_of p box (held p q es)) ≡ weighted_sum es (before (length p.cost) z) =
    sum_to-same (length p.cost) (least_of p box (held p q es)) (λ j. coef es j *ℤ z j) (λ j below. least_is j below)
    ∙ weighted_sum-before (length p.cost) es z in
    let rights : right_hand_side_of p (held p q es) ≡ weighted_sum (at_rows (length p.cost) es) (λ i. z (length p.cost + i)) =
    weighted_sum-same (at_rows (length p.cost) es) (λ i. (row_at p.rows i).right_hand_side) (λ i. z (length p.cost + i))
    (λ k d l. sym (right_is (get_or (at_rows (length p.cost) es) k d).0 (at_rows-below (length p.cost) (length p.rows) es h.below k d l))) in
    omega (arith, ints, weighted_sum-parts (length p.cost) es z)
  where
    least_is : (j : ℕ) → j < length p.cost → least_of p box (held p q es) j ≡ coef es j *ℤ z j
    least_is j below =
        ap (λ d. int_min (d *ℤ at box.low j) (d *ℤ at box.high j)) (reduced_cost_is p box q es z j fit h below)
        ∙ least_suits (coef es j) (at box.low j) (at box.high j) (z j) (Some (at box.high j)) (fit.ordered j below) refl
        (rw (low_of_quantity p box j fit.lows below, high_of_quantity p box j fit.highs below) at (h.suit j (omega arith)))

    right_is : (i : ℕ) → i < length p.rows → z (length p.cost + i) ≡ (row_at p.rows i).right_hand_side
    right_is i below =
        suits_row (row_at p.rows i).kind (coef es (length p.cost + i)) (row_at p.rows i).right_hand_side
        (low_of (variables_of p box) (length p.cost + i)) (z (length p.cost + i)) (high_of (variables_of p box) (length p.cost + i))
        (low_of_row p box i fit.lows below) (high_of_row p box i fit.highs below) (h.suit (length p.cost + i) (omega arith))

-- the multipliers are admissible
pub held_admissible : (p : System) (box : Range) (q : ℤ) (es : List (ℕ × ℤ)) (z : ℕ → ℤ) → IsFitBox p box → AreWeights p box q es z
    → IsAdmissible p (held p q es)
held_admissible p box q es z fit h =
    All-at_rows (IsFitting p) (length p.cost) es
    (λ k d l past. fitting (get_or es k d) (h.below k d l) (coef-get_or es k d h.rising l) (h.no_zero k d l) past)
  where
    fitting : (e : ℕ × ℤ) → e.0 < length p.cost + length p.rows → coef es e.0 ≡ e.1 → e.1 ≢ pos 0 → length p.cost ≤ e.0
        → IsFitting p (e.0 - length p.cost, e.1)
    fitting e below same not_zero past =
        let number : length p.cost + (e.0 - length p.cost) ≡ e.0 = omega arith in
        let inside : e.0 - length p.cost < length p.rows = omega arith in
        let top : high_of (variables_of p box) e.0 ≡ row_high (row_at p.rows (e.0 - length p.cost)).kind
        (row_at p.rows (e.0 - length p.cost)).right_hand_side =
        ap (high_of (variables_of p box)) (sym number) ∙ high_of_row p box (e.0 - length p.cost) fit.highs inside in
        (inside, may_weigh (row_at p.rows (e.0 - length p.cost)).kind e.1 (row_at p.rows (e.0 - length p.cost)).right_hand_side (low_of (variables_of p box) e.0) (z e.0) (high_of (variables_of p box) e.0) top not_zero (rw same at (h.suit e.0 below)))
