-- Equations in lowest terms stay so: divided by their divisor, turned, and with a variable replaced.
use Rattle.std.proofs.Common.{◌≡◌, ◌≢◌, ℕ, suc, ◌+◌, ◌*◌, ◌<◌, ◌≤◌, max, List, [], ◌∷◌, Bool, true, false, ◌&&◌, ◌==◌, if◌then◌else◌, ℤ, pos, negsuc, ◌*ℤ◌, ◌≤ℤ◌, unsigned_abs, int_div, Some, None, All, refl, ap, sym, ◌∙◌, subst, arith}
use Rattle.std.specs.Int.{◌∣◌}
use Rattle.std.proofs.lemmas.Int.{ints, unsigned_abs-mul}
use Rattle.std.proofs.Math.Nat.{mul-dvd-mul_left, dvd_of_mul-dvd-mul_left, eq-one_of_dvd-one, div-le_self}
use Rattle.std.proofs.lemmas.Bool.Decides.{nat_tests}
use Rattle.std.proofs.lemmas.List.Elements.{All-nil, All-cons, All-head, All-tail, All-weaker, All-map}
use Rattle.opt_sums.specs.Entries.{coef, IsRising, HasNoZero, AllBelow}
use Rattle.opt_sums.proofs.EntryLemmas.{coef-none}
use Rattle.opt_sums.proofs.RisingLemmas.{coef-get_or}
use Rattle.opt_frac.specs.Divisors.{gcd, gcd_with, quotients, Fits, fits, all_fit}
use Rattle.opt_frac.specs.Equations.{Equation, IsSolved, IsReduced, divisor_of, lowest, HasTerm}
use Rattle.opt_frac.specs.Elimination.{elimination, merged_sum, without}
use Rattle.opt_frac.specs.Merging.{sums_fit}
use Rattle.opt_frac.specs.Replacing.{own_factor, own_terms, other_terms}
use Rattle.opt_frac.proofs.Divisions.{gcd-is, gcd_with-divides, divisor_positive, exact}
use Rattle.opt_frac.proofs.DivisorLemmas.{positive_quotient}
use Rattle.opt_frac.proofs.NeatSteps.{IsNeat, neat-lowest, neat-elimination}
use Rattle.opt_frac.proofs.Steps.{product_positive}
use Rattle.opt_frac.proofs.FitLemmas.{Fits-test, and_left, and_right, and_true, and_false_left}

-- ---- common divisors
-- each common divisor divides the greatest one
pub gcd_with-greatest : (x a : ℕ) (es : List (ℕ × ℤ)) → x ∣ a → All (λ e. x ∣ unsigned_abs e.1) es → x ∣ gcd_with a es
gcd_with-greatest x a [] h all = h
gcd_with-greatest x a (e ∷ es) h all =
    gcd_with-greatest x (gcd a (unsigned_abs e.1)) es
    ((gcd-is a (unsigned_abs e.1)).2 x h (All-head (λ d. x ∣ unsigned_abs d.1) e es all))
    (All-tail (λ d. x ∣ unsigned_abs d.1) e es all)

-- a divisor of an exact quotient, times the divisor, divides the number
times_divides : (d h : ℕ) (z : ℤ) → d ∣ unsigned_abs z → h ∣ unsigned_abs (int_div z (pos d)) → (d * h) ∣ unsigned_abs z
times_divides d h z divides quotient =
    let size : d * unsigned_abs (int_div z (pos d)) ≡ unsigned_abs z =
    sym (unsigned_abs-mul (pos d) (int_div z (pos d))) ∙ ap unsigned_abs (exact z d divides)
    in
    rw size at (mul-dvd-mul_left h d quotient)

times_divide : (d h : ℕ) (es : List (ℕ × ℤ)) → All (λ e. d ∣ unsigned_abs e.1) es → All (λ e. h ∣ unsigned_abs e.1) (quotients d es) → All (λ e. (d * h) ∣ unsigned_abs e.1) es
times_divide d h [] divides parts = All-nil (λ e. (d * h) ∣ unsigned_abs e.1)
times_divide d h (e ∷ es) divides parts =
    All-cons (λ a. (d * h) ∣ unsigned_abs a.1) e es
    (times_divides d h e.1 (All-head (λ a. d ∣ unsigned_abs a.1) e es divides) (All-head (λ a. h ∣ unsigned_abs a.1) (e.0, int_div e.1 (pos d)) (quotients d es) parts))
    (times_divide d h es (All-tail (λ a. d ∣ unsigned_abs a.1) e es divides) (All-tail (λ a. h ∣ unsigned_abs a.1) (e.0, int_div e.1 (pos d)) (quotients d es) parts))

-- divided by its greatest common divisor, an equation has no other common divisor than 1
pub divisor-lowest : (e : Equation) → pos 1 ≤ℤ e.lead → divisor_of (lowest e) ≡ 1
unfolding lowest
divisor-lowest e lead =
    let d : ℕ = divisor_of e in
    let divides : (d ∣ unsigned_abs e.lead) × All (λ a. d ∣ unsigned_abs a.1) e.terms = gcd_with-divides (unsigned_abs e.lead) e.terms in
    let above : 0 < d = divisor_positive d (unsigned_abs e.lead) divides.0 (omega (arith, ints)) in
    let h : ℕ = gcd_with (unsigned_abs (int_div e.lead (pos d))) (quotients d e.terms) in
    let parts : (h ∣ unsigned_abs (int_div e.lead (pos d))) × All (λ a. h ∣ unsigned_abs a.1) (quotients d e.terms) = gcd_with-divides (unsigned_abs (int_div e.lead (pos d))) (quotients d e.terms) in
    let whole : (d * h) ∣ d = gcd_with-greatest (d * h) (unsigned_abs e.lead) e.terms (times_divides d h e.lead divides.0 parts.0) (times_divide d h e.terms divides.1 parts.1) in
    let Divides : ℕ → Type 0 = λ n. (d * h) ∣ n in
    let one : d ≡ d * 1 = omega arith in
    eq-one_of_dvd-one (dvd_of_mul-dvd-mul_left h above (subst Divides one whole))

-- ---- sizes
size_quotient : (z : ℤ) (d : ℕ) → unsigned_abs (int_div z (pos d)) ≤ unsigned_abs z
size_quotient (pos n) d = div-le_self n d
size_quotient (negsuc n) d = omega (arith, ints, div-le_self (suc n) d)

fits-quotient : (z : ℤ) (d : ℕ) → Fits z → Fits (int_div z (pos d))
fits-quotient z d h = omega (arith, size_quotient z d)

-- ---- the equation divided
-- each number is below some bound
pub bound_of : (es : List (ℕ × ℤ)) → (n : ℕ) × AllBelow n es
bound_of [] = (0, All-nil (λ e. e.0 < 0))
bound_of (e ∷ es) =
    let more : (n : ℕ) × AllBelow n es = bound_of es in (
      max (e.0 + 1) more.0,
      All-cons (λ d. d.0 < max (e.0 + 1) more.0) e es (omega arith) (All-weaker (λ d. d.0 < more.0) (λ d. d.0 < max (e.0 + 1) more.0) (λ d h. omega arith) es more.1),
    )

pub neat : (e : Equation) (n : ℕ) → IsSolved e → AllBelow n e.terms → IsNeat n e
neat e n solved below = record { lead_positive = solved.lead_positive; rising = solved.rising; no_zero = solved.no_zero; apart = solved.apart; below = below }

pub reduced-lowest : (e : Equation) → IsSolved e → IsReduced (lowest e)
unfolding lowest
reduced-lowest e solved =
    let some : (n : ℕ) × AllBelow n e.terms = bound_of e.terms in
    let is : IsNeat some.0 (lowest e) = neat-lowest some.0 e (neat e some.0 solved some.1) in
    record {
      solved = record {
        lead_positive = is.lead_positive;
        lead_fits = fits-quotient e.lead (divisor_of e) solved.lead_fits;
        rising = is.rising;
        no_zero = is.no_zero;
        apart = is.apart;
        fitting = All-map (λ term. Fits term.1) (λ (a : ℕ × ℤ). (a.0, int_div a.1 (pos (divisor_of e)))) e.terms (All-weaker (λ term. Fits term.1) (λ term. Fits (int_div term.1 (pos (divisor_of e)))) (λ term h. fits-quotient term.1 (divisor_of e) h) e.terms solved.fitting);
      };
      lowest = divisor-lowest e solved.lead_positive;
    }

-- ---- a variable replaced
all_fit-All : (es : List (ℕ × ℤ)) → all_fit es ≡ true → All (λ e. Fits e.1) es
all_fit-All [] h = All-nil (λ e. Fits e.1)
all_fit-All (e ∷ es) h =
    All-cons (λ d. Fits d.1) e es (Fits-test e.1 (and_left (fits e.1) (all_fit es) h)) (all_fit-All es (and_right (fits e.1) (all_fit es) h))

some_where : (t : Bool) (x y : Equation) → (if t then Some x else None) ≡ Some y → (t ≡ true) × (x ≡ y)
some_where true x y h = (refl, cc)
some_where false x y h = cc

-- no term stands where the coefficient is 0
pub apart_from : (es : List (ℕ × ℤ)) (k : ℕ) → IsRising es → HasNoZero es → coef es k ≡ pos 0 → All (λ e. e.0 ≢ k) es
apart_from es k rising no_zero none = λ i d h e. no_zero i d h (sym (coef-get_or es i d rising h) ∙ ap (coef es) e ∙ none)

-- the variable of a term is another than the basic one
pub other_from : (e : Equation) (k : ℕ) → IsSolved e → HasTerm e k → k ≢ e.basic
other_from e k solved term same = term (ap (coef e.terms) same ∙ coef-none e.terms e.basic solved.apart)

-- what an elimination makes before it is divided
abbrev pub sum_of : Equation → Equation → Equation
sum_of by old =
    record {
      basic = old.basic;
      lead = old.lead *ℤ own_factor by old;
      terms = merged_sum (own_terms by old) (other_terms by old);
    }

-- the new equation is the sum in lowest terms, and the sum's numbers fit
pub record IsFittingSum (by old new : Equation) : Type 0 where
  pub made : lowest (sum_of by old) ≡ new
  pub lead_fits : Fits (sum_of by old).lead
  pub fitting : All (λ e. Fits e.1) (sum_of by old).terms

fitting_sum : (by old new : Equation) → elimination by old ≡ Some new → IsFittingSum by old new
unfolding elimination
fitting_sum by old new h =
    let is = some_where _ (lowest (sum_of by old)) new h in
    record {
      made = is.1;
      lead_fits = Fits-test (sum_of by old).lead (and_left _ _ (and_left _ _ (and_left _ _ is.0)));
      fitting = all_fit-All (sum_of by old).terms (and_right _ _ is.0);
    }

-- where the lead and the sums fit, the elimination is the sum in lowest terms
pub elimination-fitting : (by old : Equation) → fits (sum_of by old).lead ≡ true → sums_fit (own_terms by old) (other_terms by old) ≡ true → elimination by old ≡ Some (lowest (sum_of by old))
unfolding elimination
elimination-fitting by old lead sums =
    let kept = and_left _ _ sums in
    let rest = and_right _ _ sums in
    if_true _ (and_true _ _ (and_true _ _ (and_true _ _ lead kept) (and_left _ _ rest)) (and_right _ _ rest))
  where
    if_true : (t : Bool) → t ≡ true → (if t then Some (lowest (sum_of by old)) else None) ≡ Some (lowest (sum_of by old))
    if_true t h = rw h refl

if_false : (t : Bool) (x : Equation) → t ≡ false → (if t then Some x else None) ≡ None
if_false t x h = rw h refl

pub elimination-wide_lead : (by old : Equation) → fits (sum_of by old).lead ≡ false → elimination by old ≡ None
unfolding elimination
elimination-wide_lead by old lead =
    if_false _ (lowest (sum_of by old)) (and_false_left _ _ (and_false_left _ _ (and_false_left _ _ lead)))

regroup : (a b c d : Bool) → (b && (c && d)) ≡ false → (((a && b) && c) && d) ≡ false
regroup false b c d h = refl
regroup true false c d h = refl
regroup true true false d h = refl
regroup true true true d h = h

pub elimination-wide_sums : (by old : Equation) → sums_fit (own_terms by old) (other_terms by old) ≡ false → elimination by old ≡ None
unfolding elimination
elimination-wide_sums by old sums = if_false _ (lowest (sum_of by old)) (regroup (fits (sum_of by old).lead) (all_fit (own_terms by old)) (all_fit (other_terms by old)) (all_fit (sum_of by old).terms) sums)

-- no term of the replacing equation is left out
pub without-apart : (k : ℕ) (es : List (ℕ × ℤ)) → All (λ e. e.0 ≢ k) es → without k es ≡ es
without-apart k [] h = refl
without-apart k (e ∷ es) h =
    let apart = All-head (λ d. d.0 ≢ k) e es h in
    let test : (e.0 == k) ≡ false = grind (arith, nat_tests) in
    rw (test, without-apart k es (All-tail (λ d. d.0 ≢ k) e es h)) refl

fits-lowest : (e : Equation) → Fits e.lead → All (λ a. Fits a.1) e.terms → Fits (lowest e).lead × All (λ a. Fits a.1) (lowest e).terms
unfolding lowest
fits-lowest e lead terms = (
  fits-quotient e.lead (divisor_of e) lead,
  All-map (λ term. Fits term.1) (λ (a : ℕ × ℤ). (a.0, int_div a.1 (pos (divisor_of e)))) e.terms (All-weaker (λ term. Fits term.1) (λ term. Fits (int_div term.1 (pos (divisor_of e)))) (λ term h. fits-quotient term.1 (divisor_of e) h) e.terms terms),
)

-- the factor of the equation itself is above 0
pub own_positive : (by old : Equation) → pos 1 ≤ℤ by.lead → pos 1 ≤ℤ own_factor by old
own_positive by old lead = positive_quotient by.lead (unsigned_abs (coef old.terms by.basic)) lead

pub reduced-elimination : (by old new : Equation) → IsSolved by → IsSolved old → HasTerm old by.basic → All (λ term. term.0 ≢ old.basic) by.terms → elimination by old ≡ Some new → IsReduced new
reduced-elimination by old new by_solved old_solved term apart h =
    let first : (n : ℕ) × AllBelow n by.terms = bound_of by.terms in
    let second : (n : ℕ) × AllBelow n old.terms = bound_of old.terms in
    let n : ℕ = max first.0 second.0 in
    let by_neat : IsNeat n by = neat by n by_solved (All-weaker (λ d. d.0 < first.0) (λ d. d.0 < n) (λ d k. omega arith) by.terms first.1) in
    let old_neat : IsNeat n old = neat old n old_solved (All-weaker (λ d. d.0 < second.0) (λ d. d.0 < n) (λ d k. omega arith) old.terms second.1) in
    let is : IsNeat n new = neat-elimination n by old new by_neat old_neat term apart h in
    let sum : IsFittingSum by old new = fitting_sum by old new h in
    let fit : Fits (lowest (sum_of by old)).lead × All (λ a. Fits a.1) (lowest (sum_of by old)).terms = fits-lowest (sum_of by old) sum.lead_fits sum.fitting in
    record {
      solved = record {
        lead_positive = is.lead_positive;
        lead_fits = rw sum.made at fit.0;
        rising = is.rising;
        no_zero = is.no_zero;
        apart = is.apart;
        fitting = rw sum.made at fit.1;
      };
      lowest = rw sum.made at (divisor-lowest (sum_of by old) (product_positive old.lead (own_factor by old) old_solved.lead_positive (own_positive by old by_solved.lead_positive)));
    }
