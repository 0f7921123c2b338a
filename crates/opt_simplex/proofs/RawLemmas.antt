-- What the multipliers and the fractions of an end keep: order, no zeros, and numbers that fit where those of the
-- equations do.
use Rattle.std.proofs.Common.{◌≡◌, ◌≢◌, inl, inr, ℕ, suc, ◌-◌, ◌*◌, ◌<◌, ◌≤◌, Bool, true, false, List, [], ◌∷◌, length, ℤ, pos, neg_ℤ, ◌*ℤ◌, ◌≤ℤ◌, unsigned_abs, All, ap, sym, ◌∙◌, arith}
use Rattle.std.specs.Int.{IsGcd}
use Rattle.std.proofs.lemmas.Int.{ints}
use Rattle.std.proofs.lemmas.Bool.{cases_order, cases_lt, cases_eq, le-leb, lt-leb, eq-eqb, ne_eqb}
use Rattle.std.proofs.lemmas.List.Elements.{All-cons, All-head, All-tail, All-map, All-weaker}
use Rattle.std.proofs.lemmas.List.FromFn.{get_or-map-range_with_len, length-map-range_with_len}
use Rattle.std.proofs.Math.Nat.{le-mul_of_pos_right}
use Rattle.opt_sums.specs.Sums.{at}
use Rattle.opt_sums.proofs.Ring.{size_mul}
use Rattle.opt_sums.specs.Entries.{IsRising, HasNoZero, AllBelow}
use Rattle.opt_sums.proofs.RisingLemmas.{IsRising-nil, IsRising-cons, IsRising-head, IsRising-tail}
use Rattle.opt_frac.specs.Divisors.{Fits, gcd}
use Rattle.opt_frac.specs.Equations.{Equation}
use Rattle.opt_frac.specs.Elimination.{whole, more, negated_if}
use Rattle.opt_frac.proofs.Divisions.{divisor_positive, gcd-is, exact, quotient_positive}
use Rattle.opt_frac.proofs.TermSums.{more_before, more_after}
use Rattle.opt_frac.proofs.Shapes.{rising-negated_if, no_zero-negated_if}
use Rattle.opt_frac.proofs.NeatSteps.{IsNeat, neat-whole}
use Rattle.opt_simplex.specs.Kept.{AreRaw, IsFraction}
use Rattle.opt_simplex.specs.Tableau.{Tableau, at_rows, cost_multipliers, empty_multipliers, equation_at}
use Rattle.opt_simplex.specs.Choice.{fraction, fraction_of, point_of}
use Rattle.opt_simplex.proofs.Bridge.{All-at_rows}

-- ---- entries of rows' sums
pub rising-at_rows : (n : ℕ) (es : List (ℕ × ℤ)) → IsRising es → IsRising (at_rows n es)
rising-at_rows n [] h = IsRising-nil
rising-at_rows n (e ∷ es) h =
    let more : IsRising (at_rows n es) = rising-at_rows n es (IsRising-tail e es h) in
    elim (cases_lt e.0 n) [
      | inl below ↦ rw (lt-leb n e.0 below) more
      | inr past ↦
          rw (le-leb n e.0 past)
          (IsRising-cons (e.0 - n, e.1) (at_rows n es)
          (All-at_rows (λ d. e.0 - n < d.0) n es (All-weaker (λ d. e.0 < d.0) (λ d. n ≤ d.0 → e.0 - n < d.0 - n) (λ d later d_past. omega arith) es (IsRising-head e es h)))
          more)
    ]

pub values-at_rows : (P : ℤ → Type 0) (n : ℕ) (es : List (ℕ × ℤ)) → All (λ e. P e.1) es → All (λ e. P e.1) (at_rows n es)
values-at_rows P n es h = All-at_rows (λ e. P e.1) n es (All-weaker (λ d. P d.1) (λ d. n ≤ d.0 → P d.1) (λ d k past. k) es h)

-- ---- multipliers
pub raw-cost : (n m : ℕ) (t : Tableau) → IsNeat m t.cost → Fits t.cost.lead → All (λ e. Fits e.1) t.cost.terms → AreRaw (cost_multipliers n t)
raw-cost n m t neat lead terms =
    record {
      q_from_zero = omega (arith, ints, neat.lead_positive);
      q_fits = lead;
      rising = rising-at_rows n t.cost.terms neat.rising;
      no_zero = values-at_rows (λ z. z ≢ pos 0) n t.cost.terms neat.no_zero;
      fitting = values-at_rows Fits n t.cost.terms terms;
    }

fits_negated : (z : ℤ) → Fits z → Fits (neg_ℤ z)
fits_negated z h = let same : unsigned_abs (neg_ℤ z) ≡ unsigned_abs z = omega (arith, ints) in rw same h

fits-negated_if : (b : Bool) (es : List (ℕ × ℤ)) → All (λ e. Fits e.1) es → All (λ e. Fits e.1) (negated_if b es)
fits-negated_if true es h =
    All-map (λ (e : ℕ × ℤ). Fits e.1) (λ e. (e.0, neg_ℤ e.1)) es (All-weaker (λ e. Fits e.1) (λ e. Fits (neg_ℤ e.1)) (λ e k. fits_negated e.1 k) es h)
fits-negated_if false es h = h

-- one entry more, at a number that no other entry has
pub values-more : (P : ℤ → Type 0) (a : ℕ × ℤ) (es : List (ℕ × ℤ)) → All (λ e. e.0 ≢ a.0) es → P a.1 → All (λ e. P e.1) es → All (λ e. P e.1) (more a es)
values-more P a [] apart h k = All-cons (λ e. P e.1) a [] h k
values-more P a (e ∷ es) apart h k =
    let head : P e.1 = All-head (λ d. P d.1) e es k in
    let tail : All (λ d. P d.1) es = All-tail (λ d. P d.1) e es k in
    elim (cases_order a.0 e.0) [
      | inl same ↦ absurd (All-head (λ d. d.0 ≢ a.0) e es apart (sym same))
      | inr other ↦
          elim other [
            | inl before ↦ rw (more_before a e es before) (All-cons (λ d. P d.1) a (e ∷ es) h k)
            | inr after ↦
                rw (more_after a e es after)
                (All-cons (λ d. P d.1) e (more a es) head (values-more P a es (All-tail (λ d. d.0 ≢ a.0) e es apart) h tail))
          ]
    ]

pub raw-empty : (n m : ℕ) (below : Bool) (e : Equation) → IsNeat m e → e.basic < m → Fits e.lead → All (λ d. Fits d.1) e.terms
    → AreRaw (empty_multipliers n below e)
raw-empty n m below e neat inside lead terms =
    let parts : IsRising (whole e) × HasNoZero (whole e) × AllBelow m (whole e) = neat-whole m e neat inside in
    record {
      q_from_zero = omega (arith, ints);
      q_fits = omega arith;
      rising = rising-at_rows n (negated_if below (whole e)) (rising-negated_if below (whole e) parts.0);
      no_zero = values-at_rows (λ z. z ≢ pos 0) n (negated_if below (whole e)) (no_zero-negated_if below (whole e) parts.1);
      fitting =
          values-at_rows Fits n (negated_if below (whole e))
          (fits-negated_if below (whole e) (values-more Fits (e.basic, neg_ℤ e.lead) e.terms neat.apart (fits_negated e.lead lead) terms));
    }

-- ---- fractions
quotient_fits : (w : ℕ) (a z : ℤ) → 0 < w → pos w *ℤ a ≡ z → Fits z → Fits a
quotient_fits w a z positive e h =
    let sizes : w * unsigned_abs a ≡ unsigned_abs z = sym (size_mul (pos w) a) ∙ ap unsigned_abs e in
    let more : unsigned_abs a ≤ unsigned_abs a * w = le-mul_of_pos_right (unsigned_abs a) positive in
    omega arith

fraction-is : (z lead : ℤ) → pos 1 ≤ℤ lead → Fits z → IsFraction (fraction z lead)
fraction-is z lead positive h =
    let divides : IsGcd (unsigned_abs z) (unsigned_abs lead) (gcd (unsigned_abs z) (unsigned_abs lead)) =
    gcd-is (unsigned_abs z) (unsigned_abs lead) in
    record {
      numerator_fits =
          quotient_fits (gcd (unsigned_abs z) (unsigned_abs lead)) (fraction z lead).0 z
          (divisor_positive (gcd (unsigned_abs z) (unsigned_abs lead)) (unsigned_abs lead) divides.1 (omega (arith, ints)))
          (exact z (gcd (unsigned_abs z) (unsigned_abs lead)) divides.0) h;
      denominator_positive =
          quotient_positive (gcd (unsigned_abs z) (unsigned_abs lead)) (fraction z lead).1 lead
          (exact lead (gcd (unsigned_abs z) (unsigned_abs lead)) divides.1) positive;
    }

pub fraction_of-is : (rest : ℕ → ℤ) (j : ℕ) (es : List Equation) (zs : List ℤ) → Fits (rest j)
    → ((i : ℕ) → i < length es → pos 1 ≤ℤ (equation_at es i).lead) → ((i : ℕ) → i < length zs → Fits (at zs i))
    → IsFraction (fraction_of rest j es zs)
fraction_of-is rest j [] zs h leads fitting = record { numerator_fits = h; denominator_positive = omega (arith, ints) }
fraction_of-is rest j (e ∷ es) [] h leads fitting = record { numerator_fits = h; denominator_positive = omega (arith, ints) }
fraction_of-is rest j (e ∷ es) (z ∷ zs) h leads fitting =
    elim (cases_eq e.basic j) [
      | inl here ↦ rw (eq-eqb e.basic j here) (fraction-is z e.lead (leads 0 (omega arith)) (fitting 0 (omega arith)))
      | inr apart ↦
          rw (ne_eqb e.basic j apart)
          (fraction_of-is rest j es zs h (λ i below. leads (suc i) (omega arith)) (λ i below. fitting (suc i) (omega arith)))
    ]

pub point-is : (n : ℕ) (rest : ℕ → ℤ) (es : List Equation) (zs : List ℤ) → ((j : ℕ) → j < n → Fits (rest j))
    → ((i : ℕ) → i < length es → pos 1 ≤ℤ (equation_at es i).lead) → ((i : ℕ) → i < length zs → Fits (at zs i))
    → All IsFraction (point_of n rest es zs)
point-is n rest es zs rests leads fitting k d inside =
    let below : k < n = omega (arith, length-map-range_with_len (λ j. fraction_of rest j es zs) 0 n, inside) in
    rw (get_or-map-range_with_len (λ j. fraction_of rest j es zs) 0 n k k d below (omega arith))
    (fraction_of-is rest k es zs (rests k below) leads fitting)
