-- Equations in which one is turned and the variable that it is turned for is eliminated from the others.
use Rattle.std.proofs.Common.{◌≡◌, ◌≢◌, ◌⊎◌, inl, inr, ◌↔◌, ℕ, zero, suc, ◌<◌, if◌then◌else◌, Bool, true, false, List, length, ℤ, pos, negsuc, neg_ℤ, ◌+ℤ◌, ◌*ℤ◌, ◌≤ℤ◌, All, refl, ap, sym, ◌∙◌, arith}
use Rattle.std.specs.Int.{is_positive}
use Rattle.std.proofs.lemmas.Int.{ints}
use Rattle.std.proofs.lemmas.Bool.{cases_eq}
use Rattle.opt_sums.specs.Entries.{coef, IsRising, HasNoZero}
use Rattle.opt_sums.proofs.EntryLemmas.{coef-none}
use Rattle.opt_sums.proofs.Ring.{mul_neg}
use Rattle.opt_sums.proofs.RisingLemmas.{coef-get_or}
use Rattle.opt_frac.specs.Equations.{Equation}
use Rattle.opt_frac.specs.Elimination.{solution_for}
use Rattle.opt_frac.proofs.Steps.{gap, unit, gap-unit, gap-basic, sign_turned, IsTurned, solution_for-is, IsReplaced, replacement-is, mul_comm}
use Rattle.opt_frac.proofs.NeatSteps.{IsNeat, neat-solution_for, neat-elimination, numbers-solution_for}
use Rattle.opt_simplex.specs.Tableau.{equation_at}
use Rattle.opt_simplex.proofs.Regular.{MeetsAll, AreApart}
use Rattle.opt_simplex.proofs.Sweeps.{IsTreated, IsSwept}

-- a sum with a positive factor
zero_of_product : (a b : ℤ) → pos 1 ≤ℤ a → a *ℤ b ≡ pos 0 → b ≡ pos 0
zero_of_product (pos zero) b h k = absurd (omega (arith, ints))
zero_of_product (pos (suc n)) (pos zero) h k = refl
zero_of_product (pos (suc n)) (pos (suc m)) h k = absurd (omega (arith, ints))
zero_of_product (pos (suc n)) (negsuc m) h k = absurd (omega (arith, ints))
zero_of_product (negsuc n) b h k = absurd (omega (arith, ints))

-- no term stands where the coefficient is 0
pub apart_of_coef : (es : List (ℕ × ℤ)) (k : ℕ) → IsRising es → HasNoZero es → coef es k ≡ pos 0 → All (λ e. e.0 ≢ k) es
apart_of_coef es k rising no_zero h i d below same = no_zero i d below (sym (coef-get_or es i d rising below) ∙ ap (coef es) same ∙ h)

-- what a treated equation has become
pub record IsStepped (n : ℕ) (by old new : Equation) : Type 0 where
  pub replaced : IsReplaced by old new
  pub neat : IsNeat n new

kept_as_it_was : (by old new : Equation) → pos 1 ≤ℤ by.lead → pos 1 ≤ℤ old.lead → coef old.terms by.basic ≡ pos 0 → new ≡ old → IsReplaced by old new
kept_as_it_was by old new lead old_lead none same =
    rw same
    (record {
      same_basic = refl;
      lead_positive = old_lead;
      scale = by.lead;
      scale_positive = lead;
      each = λ f. omega (arith, ints, ap (λ c. c *ℤ gap by f) none);
    })

stepped : (n : ℕ) (by old new : Equation) → IsNeat n by → IsNeat n old → All (λ e. e.0 ≢ old.basic) by.terms → IsTreated by old new
    → IsStepped n by old new
stepped n by old new by_neat old_neat apart h = by_coef (cases_zero (coef old.terms by.basic))
  where
    cases_zero : (z : ℤ) → (z ≡ pos 0) ⊎ (z ≢ pos 0)
    cases_zero z = grind (arith, ints)

    by_coef : (coef old.terms by.basic ≡ pos 0) ⊎ (coef old.terms by.basic ≢ pos 0) → IsStepped n by old new
    by_coef (inl none) =
        record { replaced = kept_as_it_was by old new by_neat.lead_positive old_neat.lead_positive none (h.same none); neat = rw (h.same none) old_neat }
    by_coef (inr some) =
        record { replaced = replacement-is by old new by_neat.lead_positive old_neat.lead_positive (h.made some); neat = neat-elimination n by old new by_neat old_neat some apart (h.made some) }

-- the equation at the position is turned for the variable col, at which it has a term
pub record IsExchange (n col position : ℕ) (olds news : List Equation) : Type 0 where
  pub inside : position < length olds
  pub neat : (i : ℕ) → i < length olds → IsNeat n (equation_at olds i)
  pub are_apart : AreApart olds
  pub basic_below : (equation_at olds position).basic < n
  pub coefficient : coef (equation_at olds position).terms col ≢ pos 0
  pub sweep : IsSwept (solution_for col (equation_at olds position)) position olds news

-- the turned equation
abbrev pub solution_at : ℕ → ℕ → List Equation → Equation
solution_at col position olds = solution_for col (equation_at olds position)

-- the entering variable is in no basis
pub col_apart : (n col position : ℕ) (olds news : List Equation) (i : ℕ) → IsExchange n col position olds news → i < length olds
    → col ≢ (equation_at olds i).basic
col_apart n col position olds news i h below same =
    h.coefficient (ap (coef (equation_at olds position).terms) same ∙ h.are_apart.no_term position i h.inside below)

pub solution_at-is : (n col position : ℕ) (olds news : List Equation) → IsExchange n col position olds news
    → IsTurned col (equation_at olds position) (solution_at col position olds)
solution_at-is n col position olds news h =
    solution_for-is col (equation_at olds position) (col_apart n col position olds news position h h.inside) h.coefficient

pub solution_at-neat : (n col position : ℕ) (olds news : List Equation) → IsExchange n col position olds news → IsNeat n (solution_at col position olds)
solution_at-neat n col position olds news h = neat-solution_for n col (equation_at olds position) (h.neat position h.inside) h.basic_below h.coefficient

-- no other basic variable stands in the turned equation
solution_at-apart : (n col position : ℕ) (olds news : List Equation) (i : ℕ) → IsExchange n col position olds news → i < length olds
    → i ≢ position → All (λ e. e.0 ≢ (equation_at olds i).basic) (solution_at col position olds).terms
solution_at-apart n col position olds news i h below apart =
    let neat : IsNeat n (equation_at olds position) = h.neat position h.inside in
    numbers-solution_for (λ k. k ≢ (equation_at olds i).basic) col (equation_at olds position)
    (h.are_apart.distinct position i h.inside below (λ e. apart (sym e)))
    (apart_of_coef (equation_at olds position).terms (equation_at olds i).basic neat.rising neat.no_zero (h.are_apart.no_term position i h.inside below))

pub other-stepped : (n col position : ℕ) (olds news : List Equation) (i : ℕ) → IsExchange n col position olds news → i < length olds
    → i ≢ position → IsStepped n (solution_at col position olds) (equation_at olds i) (equation_at news i)
other-stepped n col position olds news i h below apart =
    stepped n (solution_at col position olds) (equation_at olds i) (equation_at news i) (solution_at-neat n col position olds news h)
    (h.neat i below) (solution_at-apart n col position olds news i h below apart) (h.sweep.others i below apart)

-- ---- what stays
pub exchange-neat : (n col position : ℕ) (olds news : List Equation) → IsExchange n col position olds news → (i : ℕ) → i < length news
    → IsNeat n (equation_at news i)
exchange-neat n col position olds news h i below =
    let inside : i < length olds = omega (arith, h.sweep.same_length) in
    elim (cases_eq i position) [
      | inl same ↦ rw (ap (equation_at news) same ∙ h.sweep.taken h.inside) (solution_at-neat n col position olds news h)
      | inr apart ↦ (other-stepped n col position olds news i h inside apart).neat
    ]

turned_zero : (c z : ℤ) → z ≡ pos 0 → sign_turned c z ≡ pos 0
turned_zero c z h = by_test (is_positive c)
  where
    by_test : (t : Bool) → (if t then neg_ℤ z else z) ≡ pos 0
    by_test true = omega (arith, ints)
    by_test false = h

zero_of_turned : (c z : ℤ) → sign_turned c z ≡ pos 0 → z ≡ pos 0
zero_of_turned c z h = by_test (is_positive c) h
  where
    by_test : (t : Bool) → (if t then neg_ℤ z else z) ≡ pos 0 → z ≡ pos 0
    by_test true k = omega (arith, ints)
    by_test false k = k

-- the values that meet the new equations are those that meet the old ones
pub exchange-values : (n col position : ℕ) (olds news : List Equation) → IsExchange n col position olds news → (f : ℕ → ℤ)
    → MeetsAll news f ↔ MeetsAll olds f
exchange-values n col position olds news h f = (old_of_new, new_of_old)
  where
    by : Equation
    by = solution_at col position olds

    turned_is : (g : ℕ → ℤ)
        → gap (solution_at col position olds) g ≡ sign_turned (coef (equation_at olds position).terms col) (gap (equation_at olds position) g)
    turned_is g = (solution_at-is n col position olds news h).each g

    old_of_new : MeetsAll news f → MeetsAll olds f
    old_of_new m i below =
        let there : position < length news = omega (arith, h.sweep.same_length, h.inside) in
        let by_zero : gap (solution_at col position olds) f ≡ pos 0 = ap (λ e. gap e f) (sym (h.sweep.taken h.inside)) ∙ m position there in
        elim (cases_eq i position) [
          | inl same ↦
              let z : gap (equation_at olds position) f ≡ pos 0 =
              zero_of_turned (coef (equation_at olds position).terms col) (gap (equation_at olds position) f) (sym (turned_is f) ∙ by_zero) in
              ap (λ k. gap (equation_at olds k) f) same ∙ z
          | inr apart ↦
              let step : IsReplaced (solution_at col position olds) (equation_at olds i) (equation_at news i) =
              (other-stepped n col position olds news i h below apart).replaced in
              let new_zero : gap (equation_at news i) f ≡ pos 0 = m i (omega (arith, h.sweep.same_length)) in
              zero_of_product (solution_at col position olds).lead (gap (equation_at olds i) f)
              (solution_at-neat n col position olds news h).lead_positive
              (omega (arith, ints, step.each f, ap (λ z. step.scale *ℤ z) new_zero, ap (λ z. coef (equation_at olds i).terms (solution_at col position olds).basic *ℤ z) by_zero))
        ]

    new_of_old : MeetsAll olds f → MeetsAll news f
    new_of_old m i below =
        let inside : i < length olds = omega (arith, h.sweep.same_length) in
        let by_zero : gap (solution_at col position olds) f ≡ pos 0 =
        turned_is f ∙ turned_zero (coef (equation_at olds position).terms col) (gap (equation_at olds position) f) (m position h.inside) in
        elim (cases_eq i position) [
          | inl same ↦ ap (λ k. gap (equation_at news k) f) same ∙ ap (λ e. gap e f) (h.sweep.taken h.inside) ∙ by_zero
          | inr apart ↦
              let step : IsReplaced (solution_at col position olds) (equation_at olds i) (equation_at news i) =
              (other-stepped n col position olds news i h inside apart).replaced in
              zero_of_product step.scale (gap (equation_at news i) f) step.scale_positive
              (omega (arith, ints, step.each f, ap (λ z. (solution_at col position olds).lead *ℤ z) (m i inside), ap (λ z. coef (equation_at olds i).terms (solution_at col position olds).basic *ℤ z) by_zero))
        ]

-- ---- the new basis
pub exchange-basic : (n col position : ℕ) (olds news : List Equation) (i : ℕ) → IsExchange n col position olds news → i < length olds
    → i ≢ position → (equation_at news i).basic ≡ (equation_at olds i).basic
exchange-basic n col position olds news i h below apart = (other-stepped n col position olds news i h below apart).replaced.same_basic

pub exchange-col : (n col position : ℕ) (olds news : List Equation) → IsExchange n col position olds news → (equation_at news position).basic ≡ col
exchange-col n col position olds news h = ap (λ (e : Equation). e.basic) (h.sweep.taken h.inside) ∙ (solution_at-is n col position olds news h).basic

-- a treated equation at a variable other than its own
stepped_at : (by old new : Equation) (k : ℕ) → IsReplaced by old new → k ≢ old.basic
    → (by.lead *ℤ coef old.terms k) +ℤ (coef old.terms by.basic *ℤ gap by (unit k)) ≡ pos 0 → coef new.terms k ≡ pos 0
stepped_at by old new k h apart zero_sum =
    let new_apart : k ≢ new.basic = λ same. apart (same ∙ h.same_basic) in
    let sum : h.scale *ℤ gap new (unit k) ≡ pos 0 =
    h.each (unit k) ∙ ap (λ z. (by.lead *ℤ z) +ℤ (coef old.terms by.basic *ℤ gap by (unit k))) (gap-unit old k apart) ∙ zero_sum in
    sym (gap-unit new k new_apart) ∙ zero_of_product h.scale (gap new (unit k)) h.scale_positive sum

-- the entering variable is gone
stepped_gone : (by old new : Equation) → IsReplaced by old new → by.basic ≢ old.basic → coef by.terms by.basic ≡ pos 0
    → coef new.terms by.basic ≡ pos 0
stepped_gone by old new h apart none =
    stepped_at by old new by.basic h apart
    (ap (λ z. (by.lead *ℤ coef old.terms by.basic) +ℤ (coef old.terms by.basic *ℤ z)) (gap-basic by none)
    ∙ omega (arith, ints, mul_neg (coef old.terms by.basic) by.lead, mul_comm by.lead (coef old.terms by.basic)))

-- a variable in neither has no term
stepped_none : (by old new : Equation) (k : ℕ) → IsReplaced by old new → k ≢ old.basic → k ≢ by.basic → coef old.terms k ≡ pos 0
    → coef by.terms k ≡ pos 0 → coef new.terms k ≡ pos 0
stepped_none by old new k h apart by_apart none by_none =
    let gap_none : gap by (unit k) ≡ pos 0 = gap-unit by k by_apart ∙ by_none in
    stepped_at by old new k h apart (omega (arith, ints, ap (λ z. by.lead *ℤ z) none, ap (λ z. coef old.terms by.basic *ℤ z) gap_none))

pub exchange-apart : (n col position : ℕ) (olds news : List Equation) → IsExchange n col position olds news → AreApart news
exchange-apart n col position olds news h = record { no_term = no_term_at; distinct = distinct_at }
  where
    by_basic : (solution_at col position olds).basic ≡ col
    by_basic = (solution_at-is n col position olds news h).basic

    by_apart : (i : ℕ) → i < length olds → (solution_at col position olds).basic ≢ (equation_at olds i).basic
    by_apart i below same = col_apart n col position olds news i h below (sym by_basic ∙ same)

    taken_basic : (i : ℕ) → i ≡ position → (equation_at news i).basic ≡ (solution_at col position olds).basic
    taken_basic i same = ap (λ k. (equation_at news k).basic) same ∙ ap (λ (e : Equation). e.basic) (h.sweep.taken h.inside)

    distinct_at : (i j : ℕ) → i < length news → j < length news → i ≢ j → (equation_at news i).basic ≢ (equation_at news j).basic
    distinct_at i j i_below j_below apart same =
        let i_in : i < length olds = omega (arith, h.sweep.same_length) in
        let j_in : j < length olds = omega (arith, h.sweep.same_length) in
        elim (cases_eq i position) [
          | inl i_here ↦
              let i_there : i ≡ position = i_here in
              let j_other : j ≢ position = λ e. apart (i_there ∙ sym e) in
              by_apart j j_in (sym (taken_basic i i_there) ∙ same ∙ exchange-basic n col position olds news j h j_in j_other)
          | inr i_other ↦
              elim (cases_eq j position) [
                | inl j_here ↦ by_apart i i_in (sym (taken_basic j j_here) ∙ sym same ∙ exchange-basic n col position olds news i h i_in i_other)
                | inr j_other ↦
                    h.are_apart.distinct i j i_in j_in apart
                    (sym (exchange-basic n col position olds news i h i_in i_other) ∙ same ∙ exchange-basic n col position olds news j h j_in j_other)
              ]
        ]

    own : (i : ℕ) → i < length news → coef (equation_at news i).terms (equation_at news i).basic ≡ pos 0
    own i below = coef-none (equation_at news i).terms (equation_at news i).basic (exchange-neat n col position olds news h i below).apart

    by_own : coef (solution_at col position olds).terms (solution_at col position olds).basic ≡ pos 0
    by_own = coef-none (solution_at col position olds).terms (solution_at col position olds).basic (solution_at-neat n col position olds news h).apart

    by_other : (j : ℕ) → j < length olds → j ≢ position → coef (solution_at col position olds).terms (equation_at olds j).basic ≡ pos 0
    by_other j below apart =
        coef-none (solution_at col position olds).terms (equation_at olds j).basic (solution_at-apart n col position olds news j h below apart)

    no_term_at : (i j : ℕ) → i < length news → j < length news → coef (equation_at news i).terms (equation_at news j).basic ≡ pos 0
    no_term_at i j i_below j_below =
        let i_in : i < length olds = omega (arith, h.sweep.same_length) in
        let j_in : j < length olds = omega (arith, h.sweep.same_length) in
        elim (cases_eq i j) [
          | inl same ↦ ap (λ k. coef (equation_at news i).terms (equation_at news k).basic) (sym same) ∙ own i i_below
          | inr apart ↦
              elim (cases_eq i position) [
                | inl i_here ↦
                    let i_there : i ≡ position = i_here in
                    let j_other : j ≢ position = λ e. apart (i_there ∙ sym e) in
                    ap (λ k. coef (equation_at news i).terms k) (exchange-basic n col position olds news j h j_in j_other)
                    ∙ ap (λ k. coef (equation_at news k).terms (equation_at olds j).basic) i_there
                    ∙ ap (λ (e : Equation). coef e.terms (equation_at olds j).basic) (h.sweep.taken h.inside)
                    ∙ by_other j j_in j_other
                | inr i_other ↦
                    let step : IsReplaced (solution_at col position olds) (equation_at olds i) (equation_at news i) =
                    (other-stepped n col position olds news i h i_in i_other).replaced in
                    elim (cases_eq j position) [
                      | inl j_here ↦
                          ap (coef (equation_at news i).terms) (taken_basic j j_here)
                          ∙ stepped_gone (solution_at col position olds) (equation_at olds i) (equation_at news i) step (by_apart i i_in) by_own
                      | inr j_other ↦
                          ap (coef (equation_at news i).terms) (exchange-basic n col position olds news j h j_in j_other)
                          ∙ stepped_none (solution_at col position olds) (equation_at olds i) (equation_at news i) (equation_at olds j).basic step
                          (λ e. h.are_apart.distinct i j i_in j_in apart (sym e)) (λ e. by_apart j j_in (sym e))
                          (h.are_apart.no_term i j i_in j_in) (by_other j j_in j_other)
                    ]
              ]
        ]
