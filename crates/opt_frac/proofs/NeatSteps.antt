-- Equations that a turn and an elimination make are neat where those that they are made of are.
use Rattle.std.proofs.Common.{◌≡◌, ◌≢◌, ℕ, zero, suc, ◌<◌, ◌==◌, List, [], ◌∷◌, ℤ, pos, negsuc, neg_ℤ, ◌*ℤ◌, ◌≤ℤ◌, unsigned_abs, Some, All, not, refl, arith}
use Rattle.std.specs.Prelude.{int_div}
use Rattle.std.specs.Int.{◌∣◌, is_positive}
use Rattle.std.proofs.lemmas.Int.{ints}
use Rattle.std.proofs.lemmas.List.Elements.{All-filter, All-weaker, All-head, All-tail, All-cons}
use Rattle.opt_sums.specs.Entries.{coef, IsRising, HasNoZero, AllBelow}
use Rattle.opt_frac.specs.Divisors.{quotients}
use Rattle.opt_frac.specs.Equations.{Equation, lowest, divisor_of}
use Rattle.opt_frac.specs.Elimination.{without, multiple, merged_sum, whole, solution_for, elimination}
use Rattle.opt_frac.proofs.Divisions.{lowest-is, gcd_with-divides, exact, quotient_not_zero}
use Rattle.opt_frac.proofs.Shapes.{numbers-more, numbers-merged_sum, numbers-map, numbers-negated_if, numbers-without, rising-more, rising-merged_sum, rising-map, rising-negated_if, rising-without, no_zero-more, no_zero-merged_sum, no_zero-map, no_zero-negated_if, no_zero-without}
use Rattle.opt_frac.proofs.Steps.{product_positive, IsEliminated, elimination-is}

-- the lead is at least 1; the terms go by rising variable below n, none of them 0 and none at the basic variable
pub record IsNeat (n : ℕ) (e : Equation) : Type 0 where
  pub lead_positive : pos 1 ≤ℤ e.lead
  pub rising : IsRising e.terms
  pub no_zero : HasNoZero e.terms
  pub apart : All (λ term. term.0 ≢ e.basic) e.terms
  pub below : AllBelow n e.terms

-- ---- a turn
size_positive : (c : ℤ) → c ≢ pos 0 → pos 1 ≤ℤ pos (unsigned_abs c)
size_positive (pos zero) h = absurd (h refl)
size_positive (pos (suc n)) h = omega (arith, ints)
size_positive (negsuc n) h = omega (arith, ints)

lead_not_zero : (z : ℤ) → pos 1 ≤ℤ z → neg_ℤ z ≢ pos 0
lead_not_zero z h e = omega (arith, ints)

pub neat-whole : (n : ℕ) (e : Equation) → IsNeat n e → e.basic < n → IsRising (whole e) × HasNoZero (whole e) × AllBelow n (whole e)
neat-whole n e h below = (
  rising-more (e.basic, neg_ℤ e.lead) e.terms h.rising,
  no_zero-more (e.basic, neg_ℤ e.lead) e.terms (lead_not_zero e.lead h.lead_positive) h.no_zero,
  numbers-more (λ k. k < n) (e.basic, neg_ℤ e.lead) e.terms below h.below,
)

pub neat-solution_for : (n col : ℕ) (e : Equation) → IsNeat n e → e.basic < n → coef e.terms col ≢ pos 0 → IsNeat n (solution_for col e)
unfolding solution_for
neat-solution_for n col e h below c =
    let parts : IsRising (whole e) × HasNoZero (whole e) × AllBelow n (whole e) = neat-whole n e h below in
    record {
      lead_positive = size_positive (coef e.terms col) c;
      rising = rising-negated_if (is_positive (coef e.terms col)) (without col (whole e)) (rising-without col (whole e) parts.0);
      no_zero = no_zero-negated_if (is_positive (coef e.terms col)) (without col (whole e)) (no_zero-without col (whole e) parts.1);
      apart = numbers-negated_if (λ k. k ≢ col) (is_positive (coef e.terms col)) (without col (whole e)) (numbers-without col (whole e));
      below = numbers-negated_if (λ k. k < n) (is_positive (coef e.terms col)) (without col (whole e)) (All-filter (λ d. not (d.0 == col)) (λ d. d.0 < n) (whole e) parts.2);
    }

-- the numbers of the terms of a turned equation are those of the equation and its basic variable
pub numbers-solution_for : (P : ℕ → Type 0) (col : ℕ) (e : Equation) → P e.basic → All (λ d. P d.0) e.terms → All (λ d. P d.0) (solution_for col e).terms
unfolding solution_for
numbers-solution_for P col e h k =
    numbers-negated_if P (is_positive (coef e.terms col)) (without col (whole e)) (All-filter (λ d. not (d.0 == col)) (λ d. P d.0) (whole e) (numbers-more P (e.basic, neg_ℤ e.lead) e.terms h k))

-- ---- an elimination
product_not_zero : (a b : ℤ) → a ≢ pos 0 → b ≢ pos 0 → (a *ℤ b) ≢ pos 0
product_not_zero (pos zero) b h k e = h refl
product_not_zero (pos (suc n)) (pos zero) h k e = k refl
product_not_zero (pos (suc n)) (pos (suc m)) h k e = omega (arith, ints)
product_not_zero (pos (suc n)) (negsuc m) h k e = omega (arith, ints)
product_not_zero (negsuc n) (pos zero) h k e = k refl
product_not_zero (negsuc n) (pos (suc m)) h k e = omega (arith, ints)
product_not_zero (negsuc n) (negsuc m) h k e = omega (arith, ints)

no_zero-multiple : (g : ℤ) (es : List (ℕ × ℤ)) → g ≢ pos 0 → HasNoZero es → HasNoZero (multiple g es)
no_zero-multiple g es h k = no_zero-map (λ e. g *ℤ e.1) es (All-weaker (λ d. d.1 ≢ pos 0) (λ d. (g *ℤ d.1) ≢ pos 0) (λ d n. product_not_zero g d.1 h n) es k)

no_zero-quotients : (d : ℕ) (es : List (ℕ × ℤ)) → All (λ e. d ∣ unsigned_abs e.1) es → HasNoZero es → HasNoZero (quotients d es)
no_zero-quotients d [] h k = k
no_zero-quotients d (e ∷ es) h k =
    All-cons (λ a. a.1 ≢ pos 0) (e.0, int_div e.1 (pos d)) (quotients d es)
    (quotient_not_zero (pos d) (int_div e.1 (pos d)) e.1 (exact e.1 d (All-head (λ a. d ∣ unsigned_abs a.1) e es h)) (All-head (λ a. a.1 ≢ pos 0) e es k))
    (no_zero-quotients d es (All-tail (λ a. d ∣ unsigned_abs a.1) e es h) (All-tail (λ a. a.1 ≢ pos 0) e es k))

positive_not_zero : (z : ℤ) → pos 1 ≤ℤ z → z ≢ pos 0
positive_not_zero z h e = omega (arith, ints)

-- the numbers of the sum are numbers of the old terms and of the turned ones
numbers-both : (P : ℕ → Type 0) (by old : Equation) (g h : ℤ) → All (λ d. P d.0) old.terms → All (λ d. P d.0) by.terms → All (λ d. P d.0) (merged_sum (multiple g (without by.basic old.terms)) (multiple h by.terms))
numbers-both P by old g h k l =
    numbers-merged_sum P (multiple g (without by.basic old.terms)) (multiple h by.terms)
    (numbers-map P (λ e. g *ℤ e.1) (without by.basic old.terms) (All-filter (λ d. not (d.0 == by.basic)) (λ d. P d.0) old.terms k))
    (numbers-map P (λ e. h *ℤ e.1) by.terms l)

pub neat-lowest : (n : ℕ) (e : Equation) → IsNeat n e → IsNeat n (lowest e)
unfolding lowest
neat-lowest n e h =
    record {
      lead_positive = (lowest-is e h.lead_positive).lead_positive;
      rising = rising-map (λ a. int_div a.1 (pos (divisor_of e))) e.terms h.rising;
      no_zero = no_zero-quotients (divisor_of e) e.terms (gcd_with-divides (unsigned_abs e.lead) e.terms).1 h.no_zero;
      apart = numbers-map (λ k. k ≢ e.basic) (λ a. int_div a.1 (pos (divisor_of e))) e.terms h.apart;
      below = numbers-map (λ k. k < n) (λ a. int_div a.1 (pos (divisor_of e))) e.terms h.below;
    }

same_neat : (n : ℕ) (a b : Equation) → b ≡ a → IsNeat n a → IsNeat n b
same_neat n a b h k = rw h k

pub neat-elimination : (n : ℕ) (by old new : Equation) → IsNeat n by → IsNeat n old → coef old.terms by.basic ≢ pos 0 → All (λ term. term.0 ≢ old.basic) by.terms → elimination by old ≡ Some new → IsNeat n new
neat-elimination n by old new by_neat old_neat c apart made =
    let how : IsEliminated by old new = elimination-is by old new by_neat.lead_positive made in
    let own : List (ℕ × ℤ) = multiple how.g (without by.basic old.terms) in
    let other : List (ℕ × ℤ) = multiple how.h by.terms in
    let sum_neat : IsNeat n (record { basic = old.basic; lead = old.lead *ℤ how.g; terms = merged_sum own other }) =
    record {
      lead_positive = product_positive old.lead how.g old_neat.lead_positive how.g_positive;
      rising = rising-merged_sum own other (rising-map (λ e. how.h *ℤ e.1) by.terms by_neat.rising);
      no_zero = no_zero-merged_sum own other
          (no_zero-multiple how.g (without by.basic old.terms) (positive_not_zero how.g how.g_positive) (no_zero-without by.basic old.terms old_neat.no_zero))
          (no_zero-multiple how.h by.terms (quotient_not_zero (pos how.w) how.h (coef old.terms by.basic) how.other c) by_neat.no_zero);
      apart = numbers-both (λ k. k ≢ old.basic) by old how.g how.h old_neat.apart apart;
      below = numbers-both (λ k. k < n) by old how.g how.h old_neat.below by_neat.below;
    } in
    same_neat n (lowest (record { basic = old.basic; lead = old.lead *ℤ how.g; terms = merged_sum own other })) new how.result (neat-lowest n (record { basic = old.basic; lead = old.lead *ℤ how.g; terms = merged_sum own other }) sum_neat)
