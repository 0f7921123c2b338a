-- Where no value is out of its range, the point is optimal.
use Rattle.std.proofs.Common.{◌≡◌, ◌≢◌, ◌⊎◌, inl, inr, ℕ, zero, suc, ◌+◌, ◌-◌, ◌<◌, Bool, true, false, List, [], ◌∷◌, map, length, get_or, ℤ, pos, ◌+ℤ◌, ◌-ℤ◌, ◌*ℤ◌, ◌≤ℤ◌, Option, Some, None, All, refl, ap, sym, ◌∙◌, arith}
use Rattle.std.specs.List.{range_with_len}
use Rattle.std.proofs.lemmas.Int.{ints}
use Rattle.std.proofs.lemmas.Bool.{cases_lt, ne_eqb}
use Rattle.std.proofs.lemmas.List.FromFn.{get_or-map-range_with_len, length-map-range_with_len}
use Rattle.std.proofs.lemmas.List.{get_or_default}
use Rattle.std.proofs.Math.ListN.{get_or-eq_default}
use Rattle.opt_sums.specs.Sums.{at}
use Rattle.opt_sums.specs.Entries.{coef, dot, weighted_sum, AllBelow}
use Rattle.opt_sums.proofs.Ring.{mul_le, mul_add}
use Rattle.opt_sums.proofs.SumLemmas.{sum_to-same}
use Rattle.opt_sums.proofs.EntryLemmas.{weighted_sum-same, weighted_sum-mul, sum_to-coef}
use Rattle.opt_system.specs.declared.rows.RowKind.{RowKind}
use Rattle.opt_system.specs.declared.rows.RowKind.TheVariants.{Ge, Eq}
use Rattle.opt_system.specs.Ranges.{Range}
use Rattle.opt_system.specs.Rows.{Stands}
use Rattle.opt_system.specs.Systems.{System, row_at, value}
use Rattle.opt_frac.specs.Equations.{Equation}
use Rattle.opt_bound.specs.Bound.{bound_of}
use Rattle.opt_frac.proofs.Steps.{mul_comm, mul_swap}
use Rattle.opt_frac.proofs.NeatSteps.{IsNeat}
use Rattle.opt_simplex.specs.Variables.{Variables, variables_of, low_of, high_of, row_high, rests_high, end_of_range, resting}
use Rattle.opt_simplex.specs.Tableau.{Tableau, cost_multipliers, equation_at}
use Rattle.opt_simplex.specs.Choice.{fraction_of, point_of}
use Rattle.opt_simplex.specs.Soundness.{fraction_at, IsOptimal}
use Rattle.opt_simplex.proofs.Meeting.{MeetsStart, cost_entries, coef-cost_entries, AllBelow-cost_entries, low_of_quantity, high_of_quantity, low_of_row, high_of_row}
use Rattle.opt_simplex.proofs.Bridge.{IsFitBox, bound_is}
use Rattle.opt_simplex.proofs.Regular.{all_of, MeetsAll, variables, IsRegular}
use Rattle.opt_simplex.proofs.Choices.{AreValues, IsIn}
use Rattle.opt_simplex.proofs.Exchange.{apart_of_coef}
use Rattle.opt_simplex.proofs.Points.{IsScaledPoint, scaled_point, find_basic}
use Rattle.opt_simplex.proofs.Empties.{cost_weights}

-- a factor above 0 may be taken off
le_of_products : (a b c : ℤ) → pos 1 ≤ℤ a → (a *ℤ b) ≤ℤ (a *ℤ c) → b ≤ℤ c
le_of_products a b c h k = by_order (order b c)
  where
    order : (b c : ℤ) → (b ≤ℤ c) ⊎ ((c +ℤ pos 1) ≤ℤ b)
    order b c = grind (arith, ints)

    by_order : (b ≤ℤ c) ⊎ ((c +ℤ pos 1) ≤ℤ b) → b ≤ℤ c
    by_order (inl le) = le
    by_order (inr more) =
        let over : (a *ℤ (c +ℤ pos 1)) ≤ℤ (a *ℤ b) = mul_le a (c +ℤ pos 1) b (omega (arith, ints)) more in
        absurd (omega (arith, ints, mul_add a c (pos 1)))

-- a factor goes into a sum
weighted_sum-factor : (s : ℤ) (es : List (ℕ × ℤ)) (f g : ℕ → ℤ) → All (λ e. g e.0 ≡ s *ℤ f e.0) es → weighted_sum es g ≡ s *ℤ weighted_sum es f
weighted_sum-factor s es f g h =
    weighted_sum-same es g (λ k. f k *ℤ s) (λ i d below. h i d below ∙ mul_comm s (f (get_or es i d).0)) ∙ weighted_sum-mul es f s
    ∙ mul_comm (weighted_sum es f) s

-- both orders
same_of_le : (a b : ℤ) → a ≤ℤ b → b ≤ℤ a → a ≡ b
same_of_le a b h k = omega (arith, ints)

stands_of : (kind : RowKind) (sum low right : ℤ) (high : Option ℤ) (s : ℤ) → high ≡ row_high kind right → (s *ℤ right) ≤ℤ sum
    → ((top : ℤ) → high ≡ Some top → sum ≤ℤ (s *ℤ top)) → Stands kind sum (s *ℤ right)
stands_of Ge sum low right high s e above below = above
stands_of Eq sum low right high s e above below = same_of_le sum (s *ℤ right) (below right e) above

module _ (p : System) (box : Range) (t : Tableau) (fit : IsFitBox p box) (h : IsRegular p box t) (zs : List ℤ)
    (values : AreValues (resting (variables_of p box) t.at_high) t.equations zs)
    (inside : (i : ℕ) → i < length t.equations → IsIn (variables_of p box) (equation_at t.equations i) (at zs i)) where
  abbrev ranges : Variables
  ranges = variables_of p box

  -- the cost equation is equation 0
  abbrev equation : ℕ → Equation
  equation i = equation_at (all_of t) i

  abbrev rest : ℕ → ℤ
  rest = resting (variables_of p box) t.at_high

  -- the value of the cost equation and of the others
  abbrev all_values : List ℤ
  all_values = weighted_sum t.cost.terms rest ∷ zs

  point : IsScaledPoint rest (all_of t) all_values
  point =
      scaled_point rest (all_of t) all_values (ap suc values.same_length)
      (λ i below. (h.neat i below).lead_positive) h.are_apart.distinct

  value_at : (i : ℕ) → i < length (all_of t) → at all_values i ≡ weighted_sum (equation i).terms rest
  value_at zero below = refl
  value_at (suc i) below = values.each i (omega arith)

  -- no term is of a basic variable
  term_other : (i : ℕ) → i < length (all_of t) → All (λ e. point.x e.0 ≡ point.scale *ℤ rest e.0) (equation i).terms
  term_other i below k d k_below =
      let neat : IsNeat (variables p) (equation i) = h.neat i below in
      point.other (get_or (equation i).terms k d).0
      (λ j j_below same. apart_of_coef (equation i).terms (equation_at (all_of t) j).basic neat.rising neat.no_zero (h.are_apart.no_term i j below j_below) k d k_below (sym same))

  meets_all : MeetsAll (all_of t) point.x
  meets_all i below =
      let sum : weighted_sum (equation i).terms point.x ≡ point.scale *ℤ weighted_sum (equation i).terms rest =
      weighted_sum-factor point.scale (equation i).terms rest point.x (term_other i below) in
      let basic : (equation i).lead *ℤ point.x (equation i).basic ≡ point.scale *ℤ weighted_sum (equation i).terms rest =
      point.basic i below ∙ ap (λ z. point.scale *ℤ z) (value_at i below) in
      zero_gap (weighted_sum (equation i).terms point.x) ((equation i).lead *ℤ point.x (equation i).basic) (sum ∙ sym basic)
    where
      zero_gap : (a b : ℤ) → a ≡ b → a -ℤ b ≡ pos 0
      zero_gap a b e = omega (arith, ints)

  meets_start : MeetsStart p point.x
  meets_start = (h.same_values point.x).0 meets_all

  -- ---- ranges
  ordered : (k : ℕ) → k < variables p → (top : ℤ) → high_of ranges k ≡ Some top → low_of ranges k ≤ℤ top
  ordered k below top e =
      elim (cases_lt k (length p.cost)) [
        | inl quantity ↦
            let is : at box.high k ≡ top = some_same (at box.high k) top (sym (high_of_quantity p box k fit.highs quantity) ∙ e) in
            rw (low_of_quantity p box k fit.lows quantity, sym is) (fit.ordered k quantity)
        | inr row ↦
            let number : length p.cost + (k - length p.cost) ≡ k = omega arith in
            let row_inside : k - length p.cost < length p.rows = omega arith in
            row_ordered (row_at p.rows (k - length p.cost)).kind (row_at p.rows (k - length p.cost)).right_hand_side (low_of ranges k) top
            (ap (low_of ranges) (sym number) ∙ low_of_row p box (k - length p.cost) fit.lows row_inside)
            (sym (high_of_row p box (k - length p.cost) fit.highs row_inside) ∙ ap (high_of ranges) number ∙ e)
      ]
    where
      some_same : (a b : ℤ) → Some a ≡ Some b → a ≡ b
      some_same a b k = cc

      row_ordered : (kind : RowKind) (right low top : ℤ) → low ≡ right → row_high kind right ≡ Some top → low ≤ℤ top
      row_ordered Ge right low top a b = cc
      row_ordered Eq right low top a b = let same : right ≡ top = cc in omega (arith, ints)

  rest_above : (flag : Bool) (low : ℤ) (high : Option ℤ) → ((top : ℤ) → high ≡ Some top → low ≤ℤ top) → low ≤ℤ end_of_range flag low high
  rest_above true low None o = omega (arith, ints)
  rest_above true low (Some top) o = o top refl
  rest_above false low high o = omega (arith, ints)

  rest_below : (flag : Bool) (low : ℤ) (high : Option ℤ) → ((top : ℤ) → high ≡ Some top → low ≤ℤ top) → (top : ℤ) → high ≡ Some top
      → end_of_range flag low high ≤ℤ top
  rest_below true low None o top e = cc
  rest_below true low (Some a) o top e = let same : a ≡ top = cc in omega (arith, ints)
  rest_below false low high o top e = o top e

  scale_from_zero : pos 0 ≤ℤ point.scale
  scale_from_zero = omega (arith, ints, point.scale_positive)

  -- a number over the lead of an equation
  over_lead : (lead a z x : ℤ) → pos 1 ≤ℤ lead → lead *ℤ x ≡ point.scale *ℤ z → (a *ℤ lead) ≤ℤ z → (point.scale *ℤ a) ≤ℤ x
  over_lead lead a z x positive e le =
      let scaled : (point.scale *ℤ (a *ℤ lead)) ≤ℤ (point.scale *ℤ z) = mul_le point.scale (a *ℤ lead) z scale_from_zero le in
      let same : point.scale *ℤ (a *ℤ lead) ≡ lead *ℤ (point.scale *ℤ a) =
      ap (λ n. point.scale *ℤ n) (mul_comm a lead) ∙ mul_swap point.scale lead a in
      le_of_products lead (point.scale *ℤ a) x positive (omega (arith, ints))

  under_lead : (lead a z x : ℤ) → pos 1 ≤ℤ lead → lead *ℤ x ≡ point.scale *ℤ z → z ≤ℤ (a *ℤ lead) → x ≤ℤ (point.scale *ℤ a)
  under_lead lead a z x positive e le =
      let scaled : (point.scale *ℤ z) ≤ℤ (point.scale *ℤ (a *ℤ lead)) = mul_le point.scale z (a *ℤ lead) scale_from_zero le in
      let same : point.scale *ℤ (a *ℤ lead) ≡ lead *ℤ (point.scale *ℤ a) =
      ap (λ n. point.scale *ℤ n) (mul_comm a lead) ∙ mul_swap point.scale lead a in
      le_of_products lead x (point.scale *ℤ a) positive (omega (arith, ints))

  -- a variable outside the basis rests
  x_other : (k : ℕ) → k < variables p → ((i : ℕ) → i < length t.equations → (equation_at t.equations i).basic ≢ k) → point.x k ≡ point.scale *ℤ rest k
  x_other k below none = point.other k other_basics
    where
      other_basics : (i : ℕ) → i < length (all_of t) → (equation i).basic ≢ k
      other_basics zero i_below same = omega (arith, same, h.cost_basic)
      other_basics (suc i) i_below same = none i (omega arith) same

  -- each variable lies in its range
  x_above : (k : ℕ) → k < variables p → (point.scale *ℤ low_of ranges k) ≤ℤ point.x k
  x_above k below =
      elim (find_basic t.equations k) [
        | inl found ↦
            let i : ℕ = found.0 in
            let there : suc found.0 < length (all_of t) = omega (arith, found.1) in
            let in_range : (low_of ranges (equation (suc found.0)).basic *ℤ (equation (suc found.0)).lead) ≤ℤ at zs found.0 =
            (inside found.0 found.1).above in
            let basic : (equation (suc found.0)).lead *ℤ point.x (equation (suc found.0)).basic ≡ point.scale *ℤ at zs found.0 =
            point.basic (suc found.0) there in
            rw (sym found.2)
            (over_lead (equation (suc found.0)).lead (low_of ranges (equation (suc found.0)).basic) (at zs found.0) (point.x (equation (suc found.0)).basic) (h.neat (suc found.0) there).lead_positive basic in_range)
        | inr none ↦
            rw (x_other k below none)
            (mul_le point.scale (low_of ranges k) (rest k) scale_from_zero (rest_above (rests_high t.at_high k) (low_of ranges k) (high_of ranges k) (ordered k below)))
      ]

  x_below : (k : ℕ) → k < variables p → (top : ℤ) → high_of ranges k ≡ Some top → point.x k ≤ℤ (point.scale *ℤ top)
  x_below k below top e =
      elim (find_basic t.equations k) [
        | inl found ↦
            let there : suc found.0 < length (all_of t) = omega (arith, found.1) in
            let in_range : at zs found.0 ≤ℤ (top *ℤ (equation (suc found.0)).lead) =
            (inside found.0 found.1).below top (ap (high_of ranges) found.2 ∙ e) in
            let basic : (equation (suc found.0)).lead *ℤ point.x (equation (suc found.0)).basic ≡ point.scale *ℤ at zs found.0 =
            point.basic (suc found.0) there in
            let at_k : (equation (suc found.0)).lead *ℤ point.x k ≡ point.scale *ℤ at zs found.0 =
            ap (λ n. (equation (suc found.0)).lead *ℤ point.x n) (sym found.2) ∙ basic in
            under_lead (equation (suc found.0)).lead top (at zs found.0) (point.x k) (h.neat (suc found.0) there).lead_positive at_k in_range
        | inr none ↦
            rw (x_other k below none)
            (mul_le point.scale (rest k) top scale_from_zero (rest_below (rests_high t.at_high k) (low_of ranges k) (high_of ranges k) (ordered k below) top e))
      ]

  -- ---- the quantities
  abbrev xs : List ℤ
  xs = map point.x (range_with_len 0 (length p.cost))

  length_xs : length xs ≡ length p.cost
  length_xs = length-map-range_with_len point.x 0 (length p.cost)

  at_xs : (j : ℕ) → j < length p.cost → at xs j ≡ point.x j
  at_xs j below = get_or-map-range_with_len point.x 0 (length p.cost) j j (pos 0) below (omega arith)

  same_on : (es : List (ℕ × ℤ)) → AllBelow (length p.cost) es → weighted_sum es (at xs) ≡ weighted_sum es point.x
  same_on es below = weighted_sum-same es (at xs) point.x (λ k d k_below. at_xs (get_or es k d).0 (below k d k_below))

  value_is : value p xs ≡ point.x (length p.cost + length p.rows)
  value_is =
      sum_to-same (length p.cost) (λ j. at p.cost j *ℤ at xs j) (λ j. coef (cost_entries p) j *ℤ at xs j)
      (λ j _. ap (λ c. c *ℤ at xs j) (sym (coef-cost_entries p j)))
      ∙ sum_to-coef (length p.cost) (cost_entries p) (at xs) (λ k past. get_or-eq_default xs (pos 0) (omega (arith, length_xs, past)))
      ∙ same_on (cost_entries p) (AllBelow-cost_entries p)
      ∙ sym meets_start.objective

  row_holds : (i : ℕ) → i < length p.rows
      → Stands (row_at p.rows i).kind (dot (row_at p.rows i).terms xs) (point.scale *ℤ (row_at p.rows i).right_hand_side)
  row_holds i below =
      let sum : dot (row_at p.rows i).terms xs ≡ point.x (length p.cost + i) =
      same_on (row_at p.rows i).terms (fit.terms i (record { kind = Ge; right_hand_side = pos 0; terms = [] }) below)
      ∙ sym (meets_start.rows i below) in
      let variable : length p.cost + i < variables p = omega (arith, below) in
      let above : (point.scale *ℤ low_of ranges (length p.cost + i)) ≤ℤ point.x (length p.cost + i) = x_above (length p.cost + i) variable in
      rw sum
      (stands_of (row_at p.rows i).kind (point.x (length p.cost + i)) (low_of ranges (length p.cost + i)) (row_at p.rows i).right_hand_side (high_of ranges (length p.cost + i)) point.scale
      (high_of_row p box i fit.highs below)
      (rw (low_of_row p box i fit.lows below) at above)
      (x_below (length p.cost + i) variable))

  reached : t.cost.lead *ℤ value p xs ≡ point.scale *ℤ bound_of p box (cost_multipliers (length p.cost) t)
  reached =
      ap (λ n. t.cost.lead *ℤ n) value_is
      ∙ ap (λ k. t.cost.lead *ℤ point.x k) (sym h.cost_basic)
      ∙ point.basic 0 (omega arith)
      ∙ ap (λ n. point.scale *ℤ n) (sym (bound_is p box t.cost.lead t.cost.terms rest fit (cost_weights p box t h)))

  fraction_is : (j : ℕ) → j < length p.cost → fraction_at (point_of (length p.cost) rest t.equations zs) j ≡ fraction_of rest j (all_of t) all_values
  fraction_is j below =
      let apart : t.cost.basic ≢ j = λ same. omega (arith, same, h.cost_basic, below) in
      get_or-map-range_with_len (λ k. fraction_of rest k t.equations zs) 0 (length p.cost) j j (pos 0, pos 1) below (omega arith)
      ∙ rw (ne_eqb t.cost.basic j apart) refl

  length_point : length (point_of (length p.cost) rest t.equations zs) ≡ length p.cost
  length_point = length-map-range_with_len (λ k. fraction_of rest k t.equations zs) 0 (length p.cost)

  pub optimal : IsOptimal p box (point_of (length p.cost) rest t.equations zs) (cost_multipliers (length p.cost) t)
  optimal =
      record {
        scale = point.scale;
        x = xs;
        scaled = record {
          scale_positive = point.scale_positive;
          same_length = length_xs ∙ sym length_point;
          equal =
              λ j below. let j_below : j < length p.cost =
              omega (arith, length_point, below) in rw (at_xs j j_below, fraction_is j j_below) (point.fractions j);
        };
        meets = record {
          same_length = length_xs;
          above = λ j below. let j_below : j < length p.cost = omega (arith, length_xs, below) in
              let over : (point.scale *ℤ low_of ranges j) ≤ℤ point.x j = x_above j (omega (arith, j_below)) in
              rw (at_xs j j_below) (rw (low_of_quantity p box j fit.lows j_below) at over);
          below = λ j below. let j_below : j < length p.cost = omega (arith, length_xs, below) in
              rw (at_xs j j_below) (x_below j (omega (arith, j_below)) (at box.high j) (high_of_quantity p box j fit.highs j_below));
          rows_hold =
              λ i d below. let same : get_or p.rows i d ≡ row_at p.rows i =
              get_or_default p.rows i d (record { kind = Ge; right_hand_side = pos 0; terms = [] }) below in rw same (row_holds i below);
        };
        reached = reached;
      }
