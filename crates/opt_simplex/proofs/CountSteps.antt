-- How many coefficients are stored after an equation is treated, and after one is turned.
use Rattle.std.proofs.Common.{◌≡◌, ◌≢◌, ◌⊎◌, inl, inr, ℕ, suc, ◌+◌, ◌-◌, ◌<◌, ◌≤◌, ◌==◌, ◌^◌, if◌then◌else◌, Bool, true, false, not, List, [], ◌∷◌, length, set, sum_by, nat_lt, ℤ, pos, neg_ℤ, unsigned_abs, Option, Some, None, Result, Ok, Err, All, refl, ap, sym, ◌∙◌, arith}
use Rattle.std.proofs.lemmas.Int.{ints}
use Rattle.std.proofs.lemmas.Bool.{eq-eqb, ne_eqb, cases_eq, cases_lt}
use Rattle.std.proofs.lemmas.Bool.Decides.{nat_tests}
use Rattle.std.proofs.lemmas.List.{length-map}
use Rattle.std.proofs.lemmas.List.Sums.{sum_by-set}
use Rattle.std.proofs.lemmas.List.Elements.{All-head, All-tail, All-weaker}
use Rattle.opt_sums.specs.Entries.{coef, IsRising}
use Rattle.opt_sums.proofs.EntryLemmas.{one_same, one_other, coef-none}
use Rattle.opt_sums.proofs.RisingLemmas.{IsRising-head, IsRising-tail}
use Rattle.opt_frac.specs.Equations.{Equation, IsReduced, equation_of}
use Rattle.opt_frac.specs.Elimination.{more, without, whole, negated_if, solution_for, elimination}
use Rattle.opt_frac.proofs.Shapes.{rising-more}
use Rattle.opt_frac.proofs.Steps.{coef-whole}
use Rattle.opt_simplex.specs.declared.end.Why.{Why}
use Rattle.opt_simplex.specs.declared.end.Why.TheVariants.{Fill}
use Rattle.opt_simplex.specs.Tableau.{equation_at}
use Rattle.opt_simplex.specs.Pivot.{Treatment, within_fill, replacing, treatment}

-- ---- an equation is treated
filled_same : (e : Equation) (count : ℕ) (r : Treatment) → within_fill e count ≡ Ok r → record { equation = e; count = count } ≡ r
filled_same e count r h = by_test (nat_lt (2 ^ 24) count) h
  where
    by_test : (full : Bool) → (if full then Err Fill else Ok (record { equation = e; count = count })) ≡ Ok r
        → record { equation = e; count = count } ≡ r
    by_test true h = cc
    by_test false h = cc

pub treatment-count : (by : Equation) (n : ℕ) (e : Equation) (r : Treatment) → treatment by n e ≡ Ok r → length e.terms ≤ n
    → r.count + length e.terms ≡ n + length r.equation.terms
treatment-count by n e r h few = by_test (cases_eq (unsigned_abs (coef e.terms by.basic)) 0)
  where
    of_parts : (new : Equation) (count : ℕ) → record { equation = new; count = count } ≡ r → count + length e.terms ≡ n + length new.terms
        → r.count + length e.terms ≡ n + length r.equation.terms
    of_parts new count is known =
        omega (arith, known, ap (λ (t : Treatment). t.count) is, ap (λ (t : Treatment). length t.equation.terms) is)

    by_made : (made : Option Equation) → replacing e n made ≡ Ok r → r.count + length e.terms ≡ n + length r.equation.terms
    by_made None k = cc
    by_made (Some new) k =
        of_parts new ((n + length new.terms) - length e.terms) (filled_same new ((n + length new.terms) - length e.terms) r k) (omega (arith, few))

    by_test : (unsigned_abs (coef e.terms by.basic) ≡ 0) ⊎ (unsigned_abs (coef e.terms by.basic) ≡ 0 → ⊥)
        → r.count + length e.terms ≡ n + length r.equation.terms
    by_test (inl z) =
        let kept : Ok (record { equation = e; count = n }) ≡ Ok r = rw (eq-eqb (unsigned_abs (coef e.terms by.basic)) 0 z) at h in
        let same : record { equation = e; count = n } ≡ r = cc in
        of_parts e n same refl
    by_test (inr z) = by_made (elimination by e) (rw (ne_eqb (unsigned_abs (coef e.terms by.basic)) 0 z) at h)

-- ---- all equations
pub terms_of_one : (es : List Equation) (p : ℕ) → p < length es → length (equation_at es p).terms ≤ sum_by (λ e. length e.terms) es
terms_of_one es p inside =
    omega (arith, sum_by-set (λ (e : Equation). length e.terms) es p (equation_of 0 (pos 1) []) (record { basic = 0; lead = pos 1; terms = [] }) inside)

pub counted-more : (by : Equation) (news : List Equation) (p : ℕ) (e new : Equation) (first stored count total : ℕ) → p < length news
    → e ≡ equation_at news p → total ≤ first → stored + total ≡ first + sum_by (λ e. length e.terms) news
    → treatment by stored e ≡ Ok (record { equation = new; count = count })
    → count + total ≡ first + sum_by (λ e. length e.terms) (set news p new)
counted-more by news p e new first stored count total inside is enough now made =
    let size : length e.terms ≡ length (equation_at news p).terms = ap (λ (d : Equation). length d.terms) is in
    let few : length e.terms ≤ stored = omega (arith, size, terms_of_one news p inside, enough, now) in
    omega (
      arith,
      size,
      now,
      treatment-count by stored e (record { equation = new; count = count }) made few,
      sum_by-set (λ (e : Equation). length e.terms) news p new (record { basic = 0; lead = pos 1; terms = [] }) inside,
    )

-- ---- a turned equation has as many terms
length-more : (a : ℕ × ℤ) (es : List (ℕ × ℤ)) → All (λ e. e.0 ≢ a.0) es → length (more a es) ≡ suc (length es)
length-more a [] apart = refl
length-more a (e ∷ es) apart = by_place (length-more a es (All-tail (λ d. d.0 ≢ a.0) e es apart)) (cases_lt a.0 e.0)
  where
    by_place : length (more a es) ≡ suc (length es) → (a.0 < e.0) ⊎ (e.0 ≤ a.0) → length (more a (e ∷ es)) ≡ suc (suc (length es))
    by_place go (inl less) =
        let test : nat_lt a.0 e.0 ≡ true = grind (arith, nat_tests) in
        rw test refl
    by_place go (inr past) =
        let other : e.0 ≢ a.0 = All-head (λ d. d.0 ≢ a.0) e es apart in
        let less : e.0 < a.0 = omega (arith, other, past) in
        let first : nat_lt a.0 e.0 ≡ false = grind (arith, nat_tests) in
        let second : nat_lt e.0 a.0 ≡ true = grind (arith, nat_tests) in
        rw (first, second) (ap suc go)

length-without_none : (k : ℕ) (es : List (ℕ × ℤ)) → All (λ e. e.0 ≢ k) es → length (without k es) ≡ length es
length-without_none k [] apart = refl
length-without_none k (e ∷ es) apart =
    rw (ne_eqb e.0 k (All-head (λ d. d.0 ≢ k) e es apart)) (ap suc (length-without_none k es (All-tail (λ d. d.0 ≢ k) e es apart)))

length-without : (k : ℕ) (es : List (ℕ × ℤ)) → IsRising es → coef es k ≢ pos 0 → suc (length (without k es)) ≡ length es
length-without k [] rising some = absurd (some refl)
length-without k (e ∷ es) rising some = by_test (λ more. length-without k es (IsRising-tail e es rising) more) (cases_eq e.0 k)
  where
    by_test : (coef es k ≢ pos 0 → suc (length (without k es)) ≡ length es) → (e.0 ≡ k) ⊎ (e.0 ≡ k → ⊥)
        → suc (length (without k (e ∷ es))) ≡ suc (length es)
    by_test go (inl same) =
        let past : All (λ d. d.0 ≢ k) es = All-weaker (λ d. e.0 < d.0) (λ d. d.0 ≢ k) (λ d less. omega (arith, same, less)) es (IsRising-head e es rising) in
        rw (eq-eqb e.0 k same) (ap suc (length-without_none k es past))
    by_test go (inr apart) =
        let rest : coef es k ≢ pos 0 = λ none. some (omega (arith, ints, one_other e.0 k e.1 apart, none)) in
        rw (ne_eqb e.0 k apart) (ap suc (go rest))

length-negated_if : (b : Bool) (es : List (ℕ × ℤ)) → length (negated_if b es) ≡ length es
length-negated_if true es = length-map es (λ (e : ℕ × ℤ). (e.0, neg_ℤ e.1))
length-negated_if false es = refl

pub length-solution_for : (col : ℕ) (e : Equation) → IsReduced e → coef e.terms col ≢ pos 0 → length (solution_for col e).terms ≡ length e.terms
unfolding solution_for
length-solution_for col e reduced some =
    let other : e.basic ≢ col = λ same. some (coef-none e.terms col (All-weaker (λ d. d.0 ≢ e.basic) (λ d. d.0 ≢ col) (λ d apart is. apart (is ∙ sym same)) e.terms reduced.solved.apart)) in
    let stays : coef (whole e) col ≢ pos 0 =
    λ none. some (sym (coef-whole e col (λ same. other (sym same))) ∙ none) in
    length-negated_if _ (without col (whole e))
    ∙ omega (
      arith,
      length-without col (whole e) (rising-more (e.basic, neg_ℤ e.lead) e.terms reduced.solved.rising) stays,
      length-more (e.basic, neg_ℤ e.lead) e.terms reduced.solved.apart,
    )

-- the count after a pivot: the sweep, the cost equation, and the turned one in its place
pub stored-whole : (first sweep_count count p : ℕ) (olds news : List Equation) (by cost new_cost : Equation) → p < length news
    → first ≡ sum_by (λ e. length e.terms) olds + length cost.terms
    → sweep_count + sum_by (λ e. length e.terms) olds ≡ first + sum_by (λ e. length e.terms) news
    → treatment by sweep_count cost ≡ Ok (record { equation = new_cost; count = count })
    → length by.terms ≡ length (equation_at news p).terms
    → count ≡ sum_by (λ e. length e.terms) (set news p by) + length new_cost.terms
stored-whole first sweep_count count p olds news by cost new_cost inside before counted made size =
    let few : length cost.terms ≤ sweep_count = omega (arith, before, counted) in
    omega (
      arith,
      before,
      counted,
      size,
      treatment-count by sweep_count cost (record { equation = new_cost; count = count }) made few,
      sum_by-set (λ (e : Equation). length e.terms) news p by (record { basic = 0; lead = pos 1; terms = [] }) inside,
    )
