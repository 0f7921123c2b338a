-- A turned equation is in lowest terms where the equation is.
use Rattle.std.proofs.Common.{◌≡◌, ◌≢◌, ◌⊎◌, inl, inr, ℕ, ◌+◌, ◌-◌, ◌^◌, ◌<◌, ◌≤◌, max, List, [], ◌∷◌, get_or, map, Bool, true, false, not, ◌==◌, ℤ, neg_ℤ, unsigned_abs, All, refl, ap, sym, ◌∙◌, subst, arith}
use Rattle.std.specs.Int.{◌∣◌, is_positive}
use Rattle.std.proofs.lemmas.Int.{ints}
use Rattle.std.proofs.Math.Nat.{eq-one_of_dvd-one}
use Rattle.std.proofs.lemmas.Bool.Decides.{nat_tests}
use Rattle.std.proofs.lemmas.List.Elements.{All-nil, All-cons, All-head, All-tail, All-weaker, All-map, All-filter}
use Rattle.opt_sums.specs.Entries.{coef, AllBelow}
use Rattle.opt_sums.proofs.RisingLemmas.{size_coef, coef-get_or}
use Rattle.opt_frac.specs.Divisors.{gcd_with, Fits}
use Rattle.opt_frac.specs.Equations.{Equation, IsReduced, divisor_of, HasTerm}
use Rattle.opt_frac.specs.Elimination.{more, negated_if, solution_for, whole, without}
use Rattle.opt_frac.proofs.Divisions.{gcd_with-divides}
use Rattle.opt_frac.proofs.NeatSteps.{IsNeat, neat-solution_for}
use Rattle.opt_frac.proofs.ReducedLemmas.{bound_of, gcd_with-greatest, neat, other_from}
use Rattle.opt_frac.proofs.Shapes.{rising-more}
use Rattle.opt_frac.proofs.Steps.{coef-whole}
use Rattle.opt_frac.proofs.TermSums.{more_before, more_after}

-- one of two different numbers is the lesser
cases_apart : (a b : ℕ) → b ≢ a → (a < b) ⊎ (b < a)
cases_apart a b h = grind arith

-- what holds of an entry and of all others holds of all with it added in its place, and back
module _ (Q : ℕ × ℤ → Type 0) (a : ℕ × ℤ) where
  added_by : (e : ℕ × ℤ) (es : List (ℕ × ℤ)) → Q a → All Q (e ∷ es) → All Q (more a es) → (a.0 < e.0) ⊎ (e.0 < a.0) → All Q (more a (e ∷ es))
  added_by e es here all later (inl h) = rw (more_before a e es h) (All-cons Q a (e ∷ es) here all)
  added_by e es here all later (inr h) = rw (more_after a e es h) (All-cons Q e (more a es) (All-head Q e es all) later)

  pub all_added : (es : List (ℕ × ℤ)) → All (λ e. e.0 ≢ a.0) es → Q a → All Q es → All Q (more a es)
  all_added [] apart here all = All-cons Q a [] here all
  all_added (e ∷ es) apart here all =
      added_by e es here all
      (all_added es (All-tail (λ d. d.0 ≢ a.0) e es apart) here (All-tail Q e es all))
      (cases_apart a.0 e.0 (All-head (λ d. d.0 ≢ a.0) e es apart))

  parts_by : (e : ℕ × ℤ) (es : List (ℕ × ℤ)) → (All Q (more a es) → Q a × All Q es) → All Q (more a (e ∷ es)) → (a.0 < e.0) ⊎ (e.0 < a.0) → Q a × All Q (e ∷ es)
  parts_by e es later all (inl h) =
      let whole : All Q (a ∷ e ∷ es) = rw (more_before a e es h) at all in
      (All-head Q a (e ∷ es) whole, All-tail Q a (e ∷ es) whole)
  parts_by e es later all (inr h) =
      let whole : All Q (e ∷ more a es) = rw (more_after a e es h) at all in
      let rest = later (All-tail Q e (more a es) whole) in
      (rest.0, All-cons Q e es (All-head Q e (more a es) whole) rest.1)

  pub all_parts : (es : List (ℕ × ℤ)) → All (λ e. e.0 ≢ a.0) es → All Q (more a es) → Q a × All Q es
  all_parts [] apart all = (All-head Q a [] all, All-nil Q)
  all_parts (e ∷ es) apart all =
      parts_by e es (all_parts es (All-tail (λ d. d.0 ≢ a.0) e es apart)) all
      (cases_apart a.0 e.0 (All-head (λ d. d.0 ≢ a.0) e es apart))

-- what holds of the entries at a number and of all others holds of all
restored_by : (Q : ℕ × ℤ → Type 0) (k : ℕ) (e : ℕ × ℤ) (es : List (ℕ × ℤ)) → (e.0 ≡ k → Q e) → (All Q (without k es) → All Q es) → (b : Bool) → (e.0 == k) ≡ b → All Q (without k (e ∷ es)) → All Q (e ∷ es)
restored_by Q k e es here rest true test all =
    let same : e.0 ≡ k = grind (arith, nat_tests) in
    All-cons Q e es (here same) (rest (rw test at all))
restored_by Q k e es here rest false test all =
    let shown : All Q (e ∷ without k es) = rw test at all in
    All-cons Q e es (All-head Q e (without k es) shown) (rest (All-tail Q e (without k es) shown))

restored : (Q : ℕ × ℤ → Type 0) (k : ℕ) (es : List (ℕ × ℤ)) → All (λ e. e.0 ≡ k → Q e) es → All Q (without k es) → All Q es
restored Q k [] here all = all
restored Q k (e ∷ es) here all =
    restored_by Q k e es (All-head (λ d. d.0 ≡ k → Q d) e es here) (restored Q k es (All-tail (λ d. d.0 ≡ k → Q d) e es here)) (e.0 == k) refl all

-- ---- sizes, which a change of sign keeps
size_neg : (z : ℤ) → unsigned_abs (neg_ℤ z) ≡ unsigned_abs z
size_neg z = omega (arith, ints)

module _ (P : ℕ → Type 0) where
  pub sizes-negated : (b : Bool) (es : List (ℕ × ℤ)) → All (λ e. P (unsigned_abs e.1)) es → All (λ e. P (unsigned_abs e.1)) (negated_if b es)
  sizes-negated true es all =
      All-map (λ e. P (unsigned_abs e.1)) (λ (e : ℕ × ℤ). (e.0, neg_ℤ e.1)) es
      (All-weaker (λ e. P (unsigned_abs e.1)) (λ e. P (unsigned_abs (neg_ℤ e.1))) (λ e h. rw (size_neg e.1) h) es all)
  sizes-negated false es all = all

  sizes-map : (es : List (ℕ × ℤ)) → All (λ (e : ℕ × ℤ). P (unsigned_abs e.1)) (map (λ (e : ℕ × ℤ). (e.0, neg_ℤ e.1)) es) → All (λ e. P (unsigned_abs e.1)) es
  sizes-map [] all = All-nil (λ e. P (unsigned_abs e.1))
  sizes-map (e ∷ es) all =
      let rest : List (ℕ × ℤ) = map (λ (d : ℕ × ℤ). (d.0, neg_ℤ d.1)) es in
      All-cons (λ d. P (unsigned_abs d.1)) e es
      (rw (size_neg e.1) at (All-head (λ d. P (unsigned_abs d.1)) (e.0, neg_ℤ e.1) rest all))
      (sizes-map es (All-tail (λ d. P (unsigned_abs d.1)) (e.0, neg_ℤ e.1) rest all))

  pub sizes-back : (b : Bool) (es : List (ℕ × ℤ)) → All (λ e. P (unsigned_abs e.1)) (negated_if b es) → All (λ e. P (unsigned_abs e.1)) es
  sizes-back true es all = sizes-map es all
  sizes-back false es all = all

-- ---- a turned equation
fitting-solution_for : (col : ℕ) (e : Equation) → IsReduced e → All (λ a. Fits a.1) (solution_for col e).terms
unfolding solution_for
fitting-solution_for col e h =
    sizes-negated (λ n. n < 2 ^ 127) (is_positive (coef e.terms col)) (without col (whole e))
    (All-filter (λ a. not (a.0 == col)) (λ a. Fits a.1) (whole e)
    (all_added (λ a. Fits a.1) (e.basic, neg_ℤ e.lead) e.terms h.solved.apart (rw (size_neg e.lead) h.solved.lead_fits) h.solved.fitting))

-- a divisor of the turned lead and of all turned terms divides the lead and all terms
divides-whole : (x col : ℕ) (e : Equation) → IsReduced e → HasTerm e col → x ∣ unsigned_abs (coef e.terms col) → All (λ a. x ∣ unsigned_abs a.1) (without col (whole e)) → All (λ a. x ∣ unsigned_abs a.1) (whole e)
divides-whole x col e h term lead terms =
    restored (λ a. x ∣ unsigned_abs a.1) col (whole e)
    (λ i d below same.
    let value : (get_or (whole e) i d).1 ≡ coef e.terms col =
    sym (coef-get_or (whole e) i d (rising-more (e.basic, neg_ℤ e.lead) e.terms h.solved.rising) below)
    ∙ ap (coef (whole e)) same
    ∙ coef-whole e col (other_from e col h.solved term)
    in
    rw value lead)
    terms

divisor-solution_for : (col : ℕ) (e : Equation) → IsReduced e → HasTerm e col → divisor_of (solution_for col e) ≡ 1
unfolding solution_for
divisor-solution_for col e h term =
    let b : Bool = is_positive (coef e.terms col) in
    let x : ℕ = gcd_with (unsigned_abs (coef e.terms col)) (negated_if b (without col (whole e))) in
    let divides = gcd_with-divides (unsigned_abs (coef e.terms col)) (negated_if b (without col (whole e))) in
    let all : All (λ a. x ∣ unsigned_abs a.1) (whole e) =
    divides-whole x col e h term divides.0 (sizes-back (λ n. x ∣ n) b (without col (whole e)) divides.1)
    in
    let parts = all_parts (λ a. x ∣ unsigned_abs a.1) (e.basic, neg_ℤ e.lead) e.terms h.solved.apart all in
    let Divides : ℕ → Type 0 = λ n. x ∣ n in
    eq-one_of_dvd-one (subst Divides h.lowest (gcd_with-greatest x (unsigned_abs e.lead) e.terms (subst Divides (size_neg e.lead) parts.0) parts.1))

pub fits-coef : (k : ℕ) (e : Equation) → IsReduced e → Fits (coef e.terms k)
fits-coef k e h =
    let size : unsigned_abs (coef e.terms k) ≤ 2 ^ 127 - 1 =
    size_coef e.terms k (2 ^ 127 - 1) h.solved.rising (All-weaker (λ a. Fits a.1) (λ a. unsigned_abs a.1 ≤ 2 ^ 127 - 1) (λ a small. omega arith) e.terms h.solved.fitting)
    in
    omega arith

fits-lead : (col : ℕ) (e : Equation) → IsReduced e → Fits (solution_for col e).lead
unfolding solution_for
fits-lead col e h = fits-coef col e h

pub reduced-solution_for : (col : ℕ) (e : Equation) → IsReduced e → HasTerm e col → IsReduced (solution_for col e)
reduced-solution_for col e h term =
    let some : (n : ℕ) × AllBelow n e.terms = bound_of e.terms in
    let n : ℕ = max some.0 (e.basic + 1) in
    let e_neat : IsNeat n e = neat e n h.solved (All-weaker (λ d. d.0 < some.0) (λ d. d.0 < n) (λ d k. omega arith) e.terms some.1) in
    let is : IsNeat n (solution_for col e) = neat-solution_for n col e e_neat (omega arith) term in
    record {
      solved = record {
        lead_positive = is.lead_positive;
        lead_fits = fits-lead col e h;
        rising = is.rising;
        no_zero = is.no_zero;
        apart = is.apart;
        fitting = fitting-solution_for col e h;
      };
      lowest = divisor-solution_for col e h term;
    }
