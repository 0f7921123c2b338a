-- Where no variable may enter, the leaving equation shows that the box is empty; and the cost equation's multipliers.
use Rattle.std.proofs.Common.{List, ◌≡◌, ◌≢◌, inl, inr, ℕ, suc, ◌<◌, ◌==◌, if◌then◌else◌, Bool, true, false, length, get_or, ℤ, pos, neg_ℤ, ◌-ℤ◌, ◌*ℤ◌, ◌≤ℤ◌, ◌<ℤ◌, unsigned_abs, Option, Some, None, All, refl, ap, sym, ◌∙◌, arith}
use Rattle.std.proofs.lemmas.Int.{ints}
use Rattle.std.proofs.lemmas.Bool.{cases_Bool, cases_eq, eq-eqb, ne_eqb, and_from, both_ways}
use Rattle.opt_sums.specs.Entries.{coef, weighted_sum, IsRising, HasNoZero, AllBelow}
use Rattle.opt_sums.proofs.EntryLemmas.{weighted_sum-same}
use Rattle.opt_sums.proofs.RisingLemmas.{coef-get_or}
use Rattle.opt_system.specs.Ranges.{Range}
use Rattle.opt_system.specs.Systems.{System}
use Rattle.opt_frac.specs.Equations.{Equation}
use Rattle.opt_frac.specs.Elimination.{whole, negated_if}
use Rattle.opt_frac.proofs.TermSums.{weighted_sum-whole, weighted_sum-negated}
use Rattle.opt_frac.proofs.Shapes.{rising-negated_if, no_zero-negated_if, numbers-negated_if}
use Rattle.opt_frac.proofs.Steps.{gap, unit, weighted_sum-unit, gap-unit, gap-basic, mul_comm}
use Rattle.opt_frac.proofs.NeatSteps.{IsNeat, neat-whole}
use Rattle.opt_simplex.specs.Variables.{Variables, variables_of, low_of, high_of, rests_high, resting, is_free}
use Rattle.opt_simplex.specs.Tableau.{Tableau, cost_multipliers, empty_multipliers, equation_at}
use Rattle.opt_simplex.specs.Choice.{can_help, may_enter}
use Rattle.opt_simplex.specs.Soundness.{AreDual, ShowsEmpty}
use Rattle.opt_simplex.proofs.Bridge.{Suits, AreWeights, IsFitBox, bound_is, held_admissible}
use Rattle.opt_simplex.proofs.Signs.{signed, not_positive_is, not_negative_is}
use Rattle.opt_simplex.proofs.Suiting.{IsThere, suits_fixed, suits_end}
use Rattle.opt_simplex.proofs.Regular.{variables, IsRegular}
use Rattle.opt_simplex.proofs.Choices.{IsOut}
use Rattle.opt_simplex.proofs.Entries.{find_term, helper_not_zero, pair_same}

-- ---- the cost equation
pub cost_weights : (p : System) (box : Range) (t : Tableau) → IsRegular p box t
    → AreWeights p box t.cost.lead t.cost.terms (resting (variables_of p box) t.at_high)
cost_weights p box t h =
    let neat : IsNeat (variables p) t.cost = h.neat 0 (omega arith) in
    record {
      rising = neat.rising;
      no_zero = neat.no_zero;
      below = neat.below;
      suit = h.suit;
      balanced =
          λ f m. let z : gap t.cost f ≡ pos 0 =
          (h.same_values f).1 m 0 (omega arith) in omega (arith, ints, z, ap (λ k. t.cost.lead *ℤ f k) h.cost_basic);
    }

pub cost_dual : (p : System) (box : Range) (t : Tableau) → IsFitBox p box → IsRegular p box t → AreDual p (cost_multipliers (length p.cost) t)
cost_dual p box t fit h =
    let neat : IsNeat (variables p) t.cost = h.neat 0 (omega arith) in
    record {
      admissible = held_admissible p box t.cost.lead t.cost.terms (resting (variables_of p box) t.at_high) fit (cost_weights p box t h);
      q_positive = neat.lead_positive;
    }

-- ---- an equation whose variable cannot come into its range
-- the sum over the equation, with the direction's sign
sum_negated : (below : Bool) (e : Equation) (f : ℕ → ℤ) → weighted_sum (negated_if below (whole e)) f ≡ signed below (gap e f)
sum_negated true e f = weighted_sum-negated (whole e) f ∙ ap neg_ℤ (weighted_sum-whole e f)
sum_negated false e f = weighted_sum-whole e f

coef_negated : (below : Bool) (e : Equation) (k : ℕ) → coef (negated_if below (whole e)) k ≡ signed below (gap e (unit k))
coef_negated below e k = sym (weighted_sum-unit (negated_if below (whole e)) k) ∙ sum_negated below e (unit k)

signed_zero : (below : Bool) (z : ℤ) → z ≡ pos 0 → signed below z ≡ pos 0
signed_zero true z h = omega (arith, ints)
signed_zero false z h = h

helpless : (below high : Bool) (e : ℤ) → can_help below high e ≡ false → pos 0 ≤ℤ signed high (signed below e)
helpless true false e h = omega (arith, ints, not_positive_is e h)
helpless true true e h = omega (arith, ints, not_negative_is e h)
helpless false false e h = omega (arith, ints, not_negative_is e h)
helpless false true e h = omega (arith, ints, not_positive_is e h)

-- the end that the leaving variable has passed
abbrev passed : Bool → ℤ → Option ℤ → ℤ
passed true low high = low
passed false low (Some high) = high
passed false low None = low

module _ (p : System) (box : Range) (t : Tableau) (fit : IsFitBox p box) (h : IsRegular p box t) (position : ℕ) (below : Bool)
    (inside : position < length t.equations)
    (out : IsOut (variables_of p box) (equation_at t.equations position) (weighted_sum (equation_at t.equations position).terms (resting (variables_of p box) t.at_high)) below)
    (helps : All (λ e. may_enter (variables_of p box) t.at_high below e ≡ false) (equation_at t.equations position).terms) where
  abbrev leaving : Equation
  leaving = equation_at t.equations position

  abbrev ranges : Variables
  ranges = variables_of p box

  abbrev rest : ℕ → ℤ
  rest = resting ranges t.at_high

  -- lead times the value of the leaving variable, and the ends of its range
  abbrev reached : ℤ
  reached = weighted_sum leaving.terms rest

  abbrev own_low : ℤ
  own_low = low_of ranges leaving.basic

  abbrev own_high : Option ℤ
  own_high = high_of ranges leaving.basic

  -- the weights of all variables
  abbrev weights_of : List (ℕ × ℤ)
  weights_of = negated_if below (whole leaving)

  -- the values at which all variables rest, but that of the leaving one at the end that it passed
  abbrev rest_with : ℕ → ℤ
  rest_with k =
      if k == leaving.basic
      then passed below (low_of ranges k) (high_of ranges k)
      else resting ranges t.at_high k

  leaving_neat : IsNeat (variables p) leaving
  leaving_neat = h.neat (suc position) (omega (arith, inside))

  own_none : coef leaving.terms leaving.basic ≡ pos 0
  own_none = h.are_apart.no_term (suc position) (suc position) (omega (arith, inside)) (omega (arith, inside))

  -- a free variable cannot help
  cannot_help : (k : ℕ) → is_free (low_of ranges k) (high_of ranges k) ≡ true
      → pos 0 ≤ℤ signed (rests_high t.at_high k) (signed below (coef leaving.terms k))
  cannot_help k free =
      elim (cases_Bool (can_help below (rests_high t.at_high k) (coef leaving.terms k))) [
        | inl can ↦ absurd (no_help can)
        | inr cannot ↦ helpless below (rests_high t.at_high k) (coef leaving.terms k) cannot
      ]
    where
      no_help : can_help below (rests_high t.at_high k) (coef leaving.terms k) ≡ true → ⊥
      no_help can =
          let d : ℕ × ℤ = (k, coef leaving.terms k) in
          let there : coef leaving.terms k ≢ pos 0 =
          λ z. omega (arith, ap unsigned_abs z, helper_not_zero below (rests_high t.at_high k) (coef leaving.terms k) can) in
          let found : (i : ℕ) × (i < length leaving.terms) × ((get_or leaving.terms i d).0 ≡ k) = find_term leaving.terms k d there in
          let value : (get_or leaving.terms found.0 d).1 ≡ coef leaving.terms k =
          sym (coef-get_or leaving.terms found.0 d leaving_neat.rising found.1) ∙ ap (coef leaving.terms) found.2 in
          let same : get_or leaving.terms found.0 d ≡ (k, coef leaving.terms k) =
          pair_same (get_or leaving.terms found.0 d) k (coef leaving.terms k) found.2 value in
          let no : may_enter ranges t.at_high below (k, coef leaving.terms k) ≡ false = rw same at (helps found.0 d found.1) in
          both_ways (may_enter ranges t.at_high below (k, coef leaving.terms k)) no
          (and_from (is_free (low_of ranges k) (high_of ranges k)) (can_help below (rests_high t.at_high k) (coef leaving.terms k)) free can)

  suit_other : (k : ℕ) → k ≢ leaving.basic
      → Suits (signed below (coef leaving.terms k)) (low_of ranges k) (high_of ranges k) (resting ranges t.at_high k)
  suit_other k apart =
      elim (cases_Bool (is_free (low_of ranges k) (high_of ranges k))) [
        | inl free ↦
            suits_end (rests_high t.at_high k) (signed below (coef leaving.terms k)) (low_of ranges k) (high_of ranges k) (h.ends k)
            (cannot_help k free)
        | inr fixed ↦ suits_fixed (rests_high t.at_high k) (signed below (coef leaving.terms k)) (low_of ranges k) (high_of ranges k) fixed
      ]

  -- the leaving variable's own weight
  suit_own : (below : Bool) (lead low : ℤ) (high : Option ℤ) → pos 1 ≤ℤ lead → (below ≡ false → IsThere high)
      → Suits (signed below (neg_ℤ lead)) low high (passed below low high)
  suit_own true lead low high positive there = inl (refl, omega (arith, ints, positive))
  suit_own false lead low None positive there = absurd (none (there refl))
    where
      none : IsThere None → ⊥
      none k = let e : None ≡ Some k.0 = k.1 in cc
  suit_own false lead low (Some top) positive there = inr (refl, omega (arith, ints, positive))

  out_there : (b : Bool) (z : ℤ) → IsOut ranges leaving z b → b ≡ false → IsThere own_high
  out_there true z o same = cc
  out_there false z o same = (o.0, o.1)

  weights : AreWeights p box (pos 0) weights_of rest_with
  weights =
      let parts : IsRising (whole leaving) × HasNoZero (whole leaving) × AllBelow (variables p) (whole leaving) =
      neat-whole (variables p) leaving leaving_neat (h.basics position inside) in
      record {
        rising = rising-negated_if below (whole leaving) parts.0;
        no_zero = no_zero-negated_if below (whole leaving) parts.1;
        below = numbers-negated_if (λ k. k < variables p) below (whole leaving) parts.2;
        suit = λ k k_inside. elim (cases_eq k leaving.basic) [
          | inl same ↦
              let there : k ≡ leaving.basic = same in
              let weight : coef weights_of k ≡ signed below (neg_ℤ leaving.lead) =
              ap (coef weights_of) there ∙ coef_negated below leaving leaving.basic ∙ ap (signed below) (gap-basic leaving own_none) in
              rw (weight, eq-eqb k leaving.basic there)
              (suit_own below leaving.lead (low_of ranges k) (high_of ranges k) leaving_neat.lead_positive
              (λ above. rw there (out_there below reached out above)))
          | inr apart ↦
              let weight : coef weights_of k ≡ signed below (coef leaving.terms k) =
              coef_negated below leaving k ∙ ap (signed below) (gap-unit leaving k apart) in
              rw (weight, ne_eqb k leaving.basic apart) (suit_other k apart)
        ];
        balanced =
            λ f m. sum_negated below leaving f
            ∙ signed_zero below (gap leaving f) ((h.same_values f).1 m (suc position) (omega (arith, inside))) ∙ omega (arith, ints);
      }

  -- the equation at those values
  gap_with : gap leaving rest_with
      ≡ reached
      -ℤ (leaving.lead *ℤ passed below own_low own_high)
  gap_with =
      let terms : weighted_sum leaving.terms rest_with ≡ reached =
      weighted_sum-same leaving.terms rest_with rest
      (λ i d i_inside. rw (ne_eqb (get_or leaving.terms i d).0 leaving.basic (leaving_neat.apart i d i_inside)) refl) in
      ap (λ z. z -ℤ (leaving.lead *ℤ rest_with leaving.basic)) terms
      ∙ rw (eq-eqb leaving.basic leaving.basic refl) refl

  out_positive : (b : Bool) (z lead low : ℤ) (high : Option ℤ)
      → ((b ≡ true → z <ℤ (low *ℤ lead)) × (b ≡ false → (top : ℤ) × (high ≡ Some top) × ((top *ℤ lead) <ℤ z)))
      → pos 0 <ℤ signed b (z -ℤ (lead *ℤ passed b low high))
  out_positive true z lead low high o = omega (arith, ints, o.0 refl, mul_comm low lead)
  out_positive false z lead low None o = absurd (none (o.1 refl).0 (o.1 refl).1)
    where
      none : (top : ℤ) → None ≡ Some top → ⊥
      none top k = cc
  out_positive false z lead low (Some high) o =
      let same : high ≡ (o.1 refl).0 = some_same high (o.1 refl).0 (o.1 refl).1 in
      omega (arith, ints, (o.1 refl).2, mul_comm high lead, ap (λ n. n *ℤ lead) same)
    where
      some_same : (a b : ℤ) → Some a ≡ Some b → a ≡ b
      some_same a b k = cc

  out_both : (b : Bool) (z : ℤ) → IsOut ranges leaving z b
      → (b ≡ true → z <ℤ (low_of ranges leaving.basic *ℤ leaving.lead))
      × (b ≡ false → (top : ℤ) × (high_of ranges leaving.basic ≡ Some top) × ((top *ℤ leaving.lead) <ℤ z))
  out_both true z o = (λ _. o, λ k. cc)
  out_both false z o = (λ k. cc, λ _. o)

  pub empty_shown : ShowsEmpty p box (empty_multipliers (length p.cost) below leaving)
  empty_shown =
      record {
        admissible = held_admissible p box (pos 0) weights_of rest_with fit weights;
        no_objective = refl;
        bound_positive =
            rw (bound_is p box (pos 0) weights_of rest_with fit weights ∙ sum_negated below leaving rest_with ∙ ap (signed below) gap_with)
            (out_positive below reached leaving.lead
            own_low own_high
            (out_both below reached out));
      }
