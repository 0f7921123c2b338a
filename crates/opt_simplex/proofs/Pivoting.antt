-- A pivot keeps a tableau regular.
use Rattle.std.proofs.Common.{◌≡◌, ◌≢◌, inl, inr, ◌↔◌, ℕ, suc, ◌*◌, ◌<◌, ◌≤◌, Bool, true, false, not, length, get_or, ℤ, pos, neg_ℤ, ◌+ℤ◌, ◌*ℤ◌, ◌≤ℤ◌, unsigned_abs, All, ap, sym, ◌∙◌, arith}
use Rattle.std.specs.List.{slice_set}
use Rattle.std.proofs.lemmas.Int.{ints}
use Rattle.std.proofs.lemmas.Bool.{cases_Bool, cases_eq, and_parts, and_from, not-true}
use Rattle.std.proofs.lemmas.List.{get_or-set_same, get_or-set_other}
use Rattle.std.proofs.Math.ListN.{length-set}
use Rattle.opt_sums.specs.Entries.{coef}
use Rattle.opt_sums.proofs.RisingLemmas.{coef-get_or}
use Rattle.opt_system.specs.Ranges.{Range}
use Rattle.opt_system.specs.Systems.{System}
use Rattle.opt_frac.specs.Equations.{Equation}
use Rattle.opt_frac.specs.Elimination.{solution_for}
use Rattle.opt_frac.proofs.Steps.{gap, unit, gap-unit, gap-basic, sign_turned, IsTurned, IsReplaced}
use Rattle.opt_frac.proofs.NeatSteps.{IsNeat}
use Rattle.opt_simplex.specs.Variables.{Variables, variables_of, low_of, high_of, rests_high, end_of_range, resting, is_free}
use Rattle.opt_simplex.specs.Tableau.{Tableau, equation_at}
use Rattle.opt_simplex.specs.Choice.{can_help, may_enter}
use Rattle.opt_simplex.proofs.Bridge.{Suits}
use Rattle.opt_simplex.proofs.Signs.{signed, kept_sign, leaving_sign}
use Rattle.opt_simplex.proofs.Suiting.{IsThere, suits_fixed, suits_sign, suits_end}
use Rattle.opt_simplex.proofs.Regular.{all_of, MeetsAll, variables, IsRegular}
use Rattle.opt_simplex.proofs.Sweeps.{IsSwept}
use Rattle.opt_simplex.proofs.Entries.{HasLeastRatio, helper_not_zero, find_term, pair_same}
use Rattle.opt_simplex.proofs.Exchange.{IsExchange, solution_at-is, other-stepped, exchange-neat, exchange-values, exchange-basic, exchange-col, exchange-apart}

-- the equation at the position leaves, and the variable of its term d enters
pub record IsPivot (p : System) (box : Range) (t next : Tableau) (position : ℕ) (below : Bool) (d : ℕ × ℤ) : Type 0 where
  pub regular : IsRegular p box t
  pub inside : position < length t.equations
  pub out : below ≡ false → IsThere (high_of (variables_of p box) (equation_at t.equations position).basic)
  pub index : ℕ
  pub index_inside : index < length (equation_at t.equations position).terms
  pub term : get_or (equation_at t.equations position).terms index d ≡ d
  pub may : may_enter (variables_of p box) t.at_high below d ≡ true
  pub least : All (λ e. may_enter (variables_of p box) t.at_high below e ≡ true → HasLeastRatio t.cost d e) (equation_at t.equations position).terms
  pub sweep : IsSwept (solution_for d.0 (equation_at t.equations position)) (suc position) (all_of t) (all_of next)
  pub at_high : next.at_high ≡ slice_set t.at_high (equation_at t.equations position).basic (not below)

module _ (p : System) (box : Range) (t next : Tableau) (position : ℕ) (below : Bool) (d : ℕ × ℤ) (h : IsPivot p box t next position below d) where
  abbrev leaving : Equation
  leaving = equation_at t.equations position

  abbrev ranges : Variables
  ranges = variables_of p box

  -- the turned equation
  abbrev by : Equation
  by = solution_for d.0 leaving

  leaving_neat : IsNeat (variables p) leaving
  leaving_neat = h.regular.neat (suc position) (omega (arith, h.inside))

  coefficient_is : coef leaving.terms d.0 ≡ d.1
  coefficient_is =
      ap (λ (e : ℕ × ℤ). coef leaving.terms e.0) (sym h.term)
      ∙ coef-get_or leaving.terms h.index d leaving_neat.rising h.index_inside
      ∙ ap (λ (e : ℕ × ℤ). e.1) h.term

  coefficient_not_zero : coef leaving.terms d.0 ≢ pos 0
  coefficient_not_zero e = leaving_neat.no_zero h.index d h.index_inside (ap (λ (a : ℕ × ℤ). a.1) h.term ∙ sym coefficient_is ∙ e)

  col_below : d.0 < variables p
  col_below = let b : (get_or leaving.terms h.index d).0 < variables p = leaving_neat.below h.index d h.index_inside in rw h.term at b

  pub exchange : IsExchange (variables p) d.0 (suc position) (all_of t) (all_of next)
  exchange =
      record {
        inside = omega (arith, h.inside);
        neat = h.regular.neat;
        are_apart = h.regular.are_apart;
        basic_below = h.regular.basics position h.inside;
        coefficient = coefficient_not_zero;
        sweep = h.sweep;
      }

  -- ---- the basis and the resting ends
  next_cost_basic : next.cost.basic ≡ variables p
  next_cost_basic =
      exchange-basic (variables p) d.0 (suc position) (all_of t) (all_of next) 0 exchange (omega arith) (omega arith) ∙ h.regular.cost_basic

  next_basics : (i : ℕ) → i < length next.equations → (equation_at next.equations i).basic < variables p
  next_basics i inside =
      let old : i < length t.equations = omega (arith, h.sweep.same_length) in
      elim (cases_eq i position) [
        | inl same ↦
            let there : suc i ≡ suc position = ap suc same in
            let is : (equation_at (all_of next) (suc i)).basic ≡ d.0 =
            ap (λ k. (equation_at (all_of next) k).basic) there ∙ exchange-col (variables p) d.0 (suc position) (all_of t) (all_of next) exchange in
            omega (arith, is, col_below)
        | inr apart ↦
            let other : suc i ≢ suc position = λ e. apart (omega (arith, e)) in
            let is : (equation_at (all_of next) (suc i)).basic ≡ (equation_at (all_of t) (suc i)).basic =
            exchange-basic (variables p) d.0 (suc position) (all_of t) (all_of next) (suc i) exchange (omega (arith, old)) other in
            omega (arith, is, h.regular.basics i old)
      ]

  flag_leaving : rests_high next.at_high leaving.basic ≡ not below
  flag_leaving =
      ap (λ fs. rests_high fs leaving.basic) h.at_high
      ∙ get_or-set_same t.at_high leaving.basic (not below) false (omega (arith, h.regular.basics position h.inside, h.regular.flags))

  flag_other : (k : ℕ) → k ≢ leaving.basic → rests_high next.at_high k ≡ rests_high t.at_high k
  flag_other k apart =
      ap (λ fs. rests_high fs k) h.at_high ∙ get_or-set_other t.at_high leaving.basic k (not below) false apart

  next_ends : (k : ℕ) → rests_high next.at_high k ≡ true → IsThere (high_of ranges k)
  next_ends k high =
      elim (cases_eq k leaving.basic) [
        | inl same ↦
            let flag : not below ≡ true = sym flag_leaving ∙ ap (rests_high next.at_high) (sym same) ∙ high in
            rw same (h.out (not-true below flag))
        | inr apart ↦ h.regular.ends k (sym (flag_other k apart) ∙ high)
      ]

  -- ---- the signs of the costs
  cost_step : IsReplaced by t.cost next.cost
  cost_step = (other-stepped (variables p) d.0 (suc position) (all_of t) (all_of next) 0 exchange (omega arith) (omega arith)).replaced

  is_turned : IsTurned d.0 leaving by
  is_turned = solution_at-is (variables p) d.0 (suc position) (all_of t) (all_of next) exchange

  -- the new cost of variable k
  new_cost : (k : ℕ) → k < variables p
      → cost_step.scale *ℤ coef next.cost.terms k
      ≡ (pos (unsigned_abs d.1) *ℤ coef t.cost.terms k) +ℤ (coef t.cost.terms d.0 *ℤ sign_turned d.1 (gap leaving (unit k)))
  new_cost k inside =
      let old_apart : k ≢ t.cost.basic = λ e. omega (arith, e, h.regular.cost_basic) in
      let new_apart : k ≢ next.cost.basic = λ e. omega (arith, e, next_cost_basic) in
      let lead : by.lead ≡ pos (unsigned_abs d.1) = is_turned.lead ∙ ap (λ c. pos (unsigned_abs c)) coefficient_is in
      let by_gap : gap by (unit k) ≡ sign_turned d.1 (gap leaving (unit k)) =
      is_turned.each (unit k) ∙ ap (λ c. sign_turned c (gap leaving (unit k))) coefficient_is in
      let by_cost : coef t.cost.terms by.basic ≡ coef t.cost.terms d.0 = ap (coef t.cost.terms) is_turned.basic in
      ap (λ z. cost_step.scale *ℤ z) (sym (gap-unit next.cost k new_apart))
      ∙ cost_step.each (unit k)
      ∙ ap (λ z. (by.lead *ℤ z) +ℤ (coef t.cost.terms by.basic *ℤ gap by (unit k))) (gap-unit t.cost k old_apart)
      ∙ ap (λ z. (z *ℤ coef t.cost.terms k) +ℤ (coef t.cost.terms by.basic *ℤ gap by (unit k))) lead
      ∙ ap (λ z. (pos (unsigned_abs d.1) *ℤ coef t.cost.terms k) +ℤ (z *ℤ gap by (unit k))) by_cost
      ∙ ap (λ z. (pos (unsigned_abs d.1) *ℤ coef t.cost.terms k) +ℤ (coef t.cost.terms d.0 *ℤ z)) by_gap

  entering_parts : (is_free (low_of ranges d.0) (high_of ranges d.0) ≡ true) × (can_help below (rests_high t.at_high d.0) d.1 ≡ true)
  entering_parts = and_parts (is_free (low_of ranges d.0) (high_of ranges d.0)) (can_help below (rests_high t.at_high d.0) d.1) h.may

  entering_sign : pos 0 ≤ℤ signed (rests_high t.at_high d.0) (coef t.cost.terms d.0)
  entering_sign =
      suits_sign (rests_high t.at_high d.0) (coef t.cost.terms d.0) (low_of ranges d.0) (high_of ranges d.0) entering_parts.0
      (h.regular.ends d.0) (h.regular.suit d.0 col_below)

  -- the ratio of a variable that could have entered is no less
  ratio : (k : ℕ) → is_free (low_of ranges k) (high_of ranges k) ≡ true → can_help below (rests_high t.at_high k) (coef leaving.terms k) ≡ true
      → unsigned_abs (coef t.cost.terms d.0) * unsigned_abs (coef leaving.terms k) ≤ unsigned_abs (coef t.cost.terms k) * unsigned_abs d.1
  ratio k free helps =
      let there : coef leaving.terms k ≢ pos 0 =
      λ z. omega (arith, ap unsigned_abs z, helper_not_zero below (rests_high t.at_high k) (coef leaving.terms k) helps) in
      let found : (i : ℕ) × (i < length leaving.terms) × ((get_or leaving.terms i d).0 ≡ k) = find_term leaving.terms k d there in
      let value : (get_or leaving.terms found.0 d).1 ≡ coef leaving.terms k =
      sym (coef-get_or leaving.terms found.0 d leaving_neat.rising found.1) ∙ ap (coef leaving.terms) found.2 in
      let same : get_or leaving.terms found.0 d ≡ (k, coef leaving.terms k) =
      pair_same (get_or leaving.terms found.0 d) k (coef leaving.terms k) found.2 value in
      let least : may_enter ranges t.at_high below (get_or leaving.terms found.0 d) ≡ true → HasLeastRatio t.cost d (get_or leaving.terms found.0 d) =
      h.least found.0 d found.1 in
      let least_at : may_enter ranges t.at_high below (k, coef leaving.terms k) ≡ true → HasLeastRatio t.cost d (k, coef leaving.terms k) =
      rw same at least in
      least_at (and_from (is_free (low_of ranges k) (high_of ranges k)) (can_help below (rests_high t.at_high k) (coef leaving.terms k)) free helps)

  suit_other : (k : ℕ) → k < variables p → k ≢ leaving.basic
      → Suits (coef next.cost.terms k) (low_of ranges k) (high_of ranges k) (end_of_range (rests_high t.at_high k) (low_of ranges k) (high_of ranges k))
  suit_other k inside apart =
      elim (cases_Bool (is_free (low_of ranges k) (high_of ranges k))) [
        | inl free ↦
            suits_end (rests_high t.at_high k) (coef next.cost.terms k) (low_of ranges k) (high_of ranges k) (h.regular.ends k)
            (kept_sign below (rests_high t.at_high d.0) (rests_high t.at_high k) cost_step.scale (coef next.cost.terms k) d.1 (coef t.cost.terms k) (coef t.cost.terms d.0) (coef leaving.terms k) cost_step.scale_positive
            (new_cost k inside ∙ ap (λ z. (pos (unsigned_abs d.1) *ℤ coef t.cost.terms k) +ℤ (coef t.cost.terms d.0 *ℤ sign_turned d.1 z)) (gap-unit leaving k apart))
            entering_parts.1 entering_sign
            (suits_sign (rests_high t.at_high k) (coef t.cost.terms k) (low_of ranges k) (high_of ranges k) free (h.regular.ends k) (h.regular.suit k inside))
            (ratio k free))
        | inr fixed ↦ suits_fixed (rests_high t.at_high k) (coef next.cost.terms k) (low_of ranges k) (high_of ranges k) fixed
      ]

  suit_leaving : Suits (coef next.cost.terms leaving.basic) (low_of ranges leaving.basic) (high_of ranges leaving.basic) (end_of_range (not below) (low_of ranges leaving.basic) (high_of ranges leaving.basic))
  suit_leaving =
      let b : ℕ = leaving.basic in
      let inside : leaving.basic < variables p = h.regular.basics position h.inside in
      let no_cost : coef t.cost.terms leaving.basic ≡ pos 0 = h.regular.are_apart.no_term 0 (suc position) (omega arith) (omega (arith, h.inside)) in
      let own : coef leaving.terms leaving.basic ≡ pos 0 =
      h.regular.are_apart.no_term (suc position) (suc position) (omega (arith, h.inside)) (omega (arith, h.inside)) in
      let sum : cost_step.scale *ℤ coef next.cost.terms leaving.basic ≡ coef t.cost.terms d.0 *ℤ sign_turned d.1 (neg_ℤ leaving.lead) =
      new_cost leaving.basic inside
      ∙ ap (λ z. (pos (unsigned_abs d.1) *ℤ coef t.cost.terms leaving.basic) +ℤ (coef t.cost.terms d.0 *ℤ sign_turned d.1 z)) (gap-basic leaving own)
      ∙ omega (arith, ints, ap (λ z. pos (unsigned_abs d.1) *ℤ z) no_cost) in
      suits_end (not below) (coef next.cost.terms leaving.basic) (low_of ranges leaving.basic) (high_of ranges leaving.basic)
      (λ flag. h.out (not-true below flag))
      (leaving_sign below (rests_high t.at_high d.0) cost_step.scale (coef next.cost.terms leaving.basic) d.1 (coef t.cost.terms d.0) leaving.lead cost_step.scale_positive leaving_neat.lead_positive sum entering_parts.1 entering_sign)

  next_suit : (k : ℕ) → k < variables p → Suits (coef next.cost.terms k) (low_of ranges k) (high_of ranges k) (resting ranges next.at_high k)
  next_suit k inside =
      elim (cases_eq k leaving.basic) [
        | inl same ↦ rw (same, flag_leaving) suit_leaving
        | inr apart ↦ rw (flag_other k apart) (suit_other k inside apart)
      ]

  pub pivot-regular : IsRegular p box next
  pivot-regular =
      record {
        neat = exchange-neat (variables p) d.0 (suc position) (all_of t) (all_of next) exchange;
        cost_basic = next_cost_basic;
        basics = next_basics;
        are_apart = exchange-apart (variables p) d.0 (suc position) (all_of t) (all_of next) exchange;
        same_values =
            λ f. let step : MeetsAll (all_of next) f ↔ MeetsAll (all_of t) f =
            exchange-values (variables p) d.0 (suc position) (all_of t) (all_of next) exchange f in
            (λ m. (h.regular.same_values f).0 (step.0 m), λ m. step.1 ((h.regular.same_values f).1 m));
        flags = ap length h.at_high ∙ length-set t.at_high leaving.basic (not below) ∙ h.regular.flags;
        ends = next_ends;
        suit = next_suit;
      }
