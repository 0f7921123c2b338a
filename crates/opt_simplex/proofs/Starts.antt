-- The start is regular.
use Rattle.std.proofs.Common.{◌≡◌, ◌≢◌, inl, inr, ◌↔◌, ℕ, zero, suc, ◌+◌, ◌<◌, ◌≤◌, false, not, ◌==◌, List, [], ◌∷◌, length, replicate, ℤ, pos, ◌≤ℤ◌, unsigned_abs, All, refl, ap, sym, ◌∙◌, arith}
use Rattle.std.specs.List.{enumerate_from}
use Rattle.std.proofs.lemmas.Int.{ints}
use Rattle.std.proofs.lemmas.Bool.{cases_eq, cases_lt, eq-eqb, ne_eqb, both_ways}
use Rattle.std.proofs.lemmas.List.Elements.{All-nil, All-cons, All-weaker}
use Rattle.std.proofs.lemmas.List.Kept.{AllPairs-filter}
use Rattle.std.proofs.Math.ListN.{length-replicate, get_or-eq_default}
use Rattle.opt_sums.specs.Sums.{at}
use Rattle.opt_sums.specs.Entries.{coef, IsRising, HasNoZero, AllBelow}
use Rattle.opt_sums.proofs.EntryLemmas.{coef-none}
use Rattle.opt_sums.proofs.RisingLemmas.{IsRising-nil, IsRising-cons}
use Rattle.opt_system.specs.declared.rows.RowKind.TheVariants.{Ge}
use Rattle.opt_system.specs.declared.rows.Row.{Row}
use Rattle.opt_system.specs.Ranges.{Range}
use Rattle.opt_system.specs.Rows.{IsEven}
use Rattle.opt_system.specs.Systems.{System, row_at}
use Rattle.opt_frac.specs.Equations.{Equation}
use Rattle.opt_frac.proofs.Steps.{gap}
use Rattle.opt_frac.proofs.NeatSteps.{IsNeat}
use Rattle.opt_simplex.specs.Variables.{rests_high}
use Rattle.opt_simplex.specs.Tableau.{row_equations, not_zeros, start, equation_at}
use Rattle.opt_simplex.proofs.Meeting.{MeetsStart, cost_entries, coef-cost_entries, AllBelow-cost_entries}
use Rattle.opt_simplex.proofs.Bridge.{IsFitBox}
use Rattle.opt_simplex.proofs.Regular.{all_of, MeetsAll, variables, IsRegular}

-- what is needed of the system beyond the box: its rows are even and its costs are at least 0
pub record IsFit (p : System) (box : Range) : Type 0 where
  pub fit_box : IsFitBox p box
  pub even : All IsEven p.rows
  pub costs : (j : ℕ) → j < length p.cost → pos 0 ≤ℤ at p.cost j

-- the equation of row i
abbrev row_equation : ℕ → List Row → ℕ → Equation
row_equation k rows i = record { basic = k + i; lead = pos 1; terms = (row_at rows i).terms }

pub length-row_equations : (k : ℕ) (rows : List Row) → length (row_equations k rows) ≡ length rows
length-row_equations k [] = refl
length-row_equations k (row ∷ rows) = ap suc (length-row_equations (k + 1) rows)

row_equations-at : (k : ℕ) (rows : List Row) (i : ℕ) → i < length rows → equation_at (row_equations k rows) i ≡ row_equation k rows i
row_equations-at k [] i h = absurd (omega arith)
row_equations-at k (row ∷ rows) zero h =
    let number : k ≡ k + zero = omega arith in
    ap (λ b. record { basic = b; lead = pos 1; terms = row.terms }) number
row_equations-at k (row ∷ rows) (suc i) h =
    let number : (k + 1) + i ≡ k + suc i = omega arith in
    row_equations-at (k + 1) rows i (omega arith) ∙ ap (λ b. record { basic = b; lead = pos 1; terms = (row_at rows i).terms }) number

-- ---- the cost entries
enumerate_after : (s t : ℕ) (xs : List ℤ) → s < t → All (λ e. s < e.0) (enumerate_from t xs)
enumerate_after s t [] h = All-nil (λ e. s < e.0)
enumerate_after s t (x ∷ xs) h = All-cons (λ e. s < e.0) (t, x) (enumerate_from (t + 1) xs) h (enumerate_after s (t + 1) xs (omega arith))

enumerate_rising : (s : ℕ) (xs : List ℤ) → IsRising (enumerate_from s xs)
enumerate_rising s [] = IsRising-nil
enumerate_rising s (x ∷ xs) =
    IsRising-cons (s, x) (enumerate_from (s + 1) xs) (enumerate_after s (s + 1) xs (omega arith)) (enumerate_rising (s + 1) xs)

pub not_zeros-none : (es : List (ℕ × ℤ)) → HasNoZero (not_zeros es)
not_zeros-none [] = All-nil (λ e. e.1 ≢ pos 0)
not_zeros-none (e ∷ es) =
    elim (cases_eq (unsigned_abs e.1) 0) [
      | inl z ↦ rw (eq-eqb (unsigned_abs e.1) 0 z) (not_zeros-none es)
      | inr z ↦
          rw (ne_eqb (unsigned_abs e.1) 0 z) (All-cons (λ d. d.1 ≢ pos 0) e (not_zeros es) (λ same. z (ap unsigned_abs same)) (not_zeros-none es))
    ]

pub cost_rising : (p : System) → IsRising (cost_entries p)
cost_rising p = AllPairs-filter (λ e d. e.0 < d.0) (λ e. not (unsigned_abs e.1 == 0)) (enumerate_from 0 p.cost) (enumerate_rising 0 p.cost)

no_flag : (n k : ℕ) → rests_high (replicate n false) k ≡ false
no_flag zero k = refl
no_flag (suc n) zero = refl
no_flag (suc n) (suc k) = no_flag n k

-- entries of quantities are neat in an equation of a later variable
neat_of : (n m basic : ℕ) (es : List (ℕ × ℤ)) → IsRising es → HasNoZero es → AllBelow n es → n ≤ basic
    → IsNeat (n + m) (record { basic = basic; lead = pos 1; terms = es })
neat_of n m basic es rising no_zero below later =
    record {
      lead_positive = omega (arith, ints);
      rising = rising;
      no_zero = no_zero;
      apart = All-weaker (λ e. e.0 < n) (λ e. e.0 ≢ basic) (λ e h same. omega arith) es below;
      below = All-weaker (λ e. e.0 < n) (λ e. e.0 < n + m) (λ e h. omega arith) es below;
    }

module _ (p : System) (box : Range) (fit : IsFit p box) where
  -- equation 0 is that of the objective, and equation i + 1 that of row i
  row_at_start : (i : ℕ) → i < length p.rows → equation_at (start p).equations i ≡ row_equation (length p.cost) p.rows i
  row_at_start i h = row_equations-at (length p.cost) p.rows i h

  rows_of_start : length (start p).equations ≡ length p.rows
  rows_of_start = length-row_equations (length p.cost) p.rows

  row_below : (i : ℕ) → i < length p.rows → AllBelow (length p.cost) (row_at p.rows i).terms
  row_below i h = fit.fit_box.terms i (record { kind = Ge; right_hand_side = pos 0; terms = [] }) h

  row_even : (i : ℕ) → i < length p.rows → IsEven (row_at p.rows i)
  row_even i h = fit.even i (record { kind = Ge; right_hand_side = pos 0; terms = [] }) h

  -- all terms are of quantities, and all basic variables come after these
  terms_below : (i : ℕ) → i < length (all_of (start p)) → AllBelow (length p.cost) (equation_at (all_of (start p)) i).terms
  terms_below zero h = AllBelow-cost_entries p
  terms_below (suc i) h = let inside : i < length p.rows = omega (arith, rows_of_start, h) in rw (row_at_start i inside) (row_below i inside)

  basic_after : (i : ℕ) → i < length (all_of (start p)) → length p.cost ≤ (equation_at (all_of (start p)) i).basic
  basic_after zero h = omega arith
  basic_after (suc i) h = let inside : i < length p.rows = omega (arith, rows_of_start, h) in rw (row_at_start i inside) (omega arith)

  start_neat : (i : ℕ) → i < length (all_of (start p)) → IsNeat (variables p) (equation_at (all_of (start p)) i)
  start_neat zero h =
      neat_of (length p.cost) (length p.rows) (length p.cost + length p.rows) (cost_entries p) (cost_rising p)
      (not_zeros-none (enumerate_from 0 p.cost)) (AllBelow-cost_entries p) (omega arith)
  start_neat (suc i) h =
      let inside : i < length p.rows = omega (arith, rows_of_start, h) in
      rw (row_at_start i inside)
      (neat_of (length p.cost) (length p.rows) (length p.cost + i) (row_at p.rows i).terms (row_even i inside).rising (row_even i inside).no_zero (row_below i inside) (omega arith))

  start_no_term : (i j : ℕ) → i < length (all_of (start p)) → j < length (all_of (start p))
      → coef (equation_at (all_of (start p)) i).terms (equation_at (all_of (start p)) j).basic ≡ pos 0
  start_no_term i j i_in j_in =
      let after : length p.cost ≤ (equation_at (all_of (start p)) j).basic = basic_after j j_in in
      coef-none (equation_at (all_of (start p)) i).terms (equation_at (all_of (start p)) j).basic
      (All-weaker (λ e. e.0 < length p.cost) (λ e. e.0 ≢ (equation_at (all_of (start p)) j).basic) (λ e h same. omega arith) (equation_at (all_of (start p)) i).terms (terms_below i i_in))

  row_basic : (i : ℕ) → suc i < length (all_of (start p)) → (equation_at (all_of (start p)) (suc i)).basic ≡ length p.cost + i
  row_basic i h = let inside : i < length p.rows = omega (arith, rows_of_start, h) in ap (λ (e : Equation). e.basic) (row_at_start i inside)

  start_distinct : (i j : ℕ) → i < length (all_of (start p)) → j < length (all_of (start p)) → i ≢ j
      → (equation_at (all_of (start p)) i).basic ≢ (equation_at (all_of (start p)) j).basic
  start_distinct zero zero i_in j_in apart same = apart refl
  start_distinct zero (suc j) i_in j_in apart same = omega (arith, same, row_basic j j_in, rows_of_start, j_in)
  start_distinct (suc i) zero i_in j_in apart same = omega (arith, same, row_basic i i_in, rows_of_start, i_in)
  start_distinct (suc i) (suc j) i_in j_in apart same = apart (omega (arith, same, row_basic i i_in, row_basic j j_in))

  start_values : (f : ℕ → ℤ) → MeetsAll (all_of (start p)) f ↔ MeetsStart p f
  start_values f = (of_all, of_start)
    where
      of_all : MeetsAll (all_of (start p)) f → MeetsStart p f
      of_all m =
          record {
            rows =
                λ i h. let z : gap (row_equation (length p.cost) p.rows i) f ≡ pos 0 =
                ap (λ e. gap e f) (sym (row_at_start i h)) ∙ m (suc i) (omega (arith, rows_of_start, h)) in omega (arith, ints, z);
            objective = let z : gap (start p).cost f ≡ pos 0 = m 0 (omega arith) in omega (arith, ints, z);
          }

      of_start : MeetsStart p f → MeetsAll (all_of (start p)) f
      of_start m zero h = omega (arith, ints, m.objective)
      of_start m (suc i) h =
          let inside : i < length p.rows = omega (arith, rows_of_start, h) in
          ap (λ e. gap e f) (row_at_start i inside) ∙ omega (arith, ints, m.rows i inside)

  cost_from_zero : (k : ℕ) → pos 0 ≤ℤ coef (cost_entries p) k
  cost_from_zero k =
      elim (cases_lt k (length p.cost)) [
        | inl inside ↦ omega (arith, ints, coef-cost_entries p k, fit.costs k inside)
        | inr past ↦ omega (arith, ints, coef-cost_entries p k, get_or-eq_default p.cost (pos 0) past)
      ]

  pub start-regular : IsRegular p box (start p)
  start-regular =
      record {
        neat = start_neat;
        cost_basic = refl;
        basics = λ i h. let inside : i < length p.rows = omega (arith, rows_of_start, h) in omega (arith, row_basic i (omega (arith, h)), inside);
        are_apart = record { no_term = start_no_term; distinct = start_distinct };
        same_values = start_values;
        flags = length-replicate (length p.cost + length p.rows) false;
        ends =
            λ k h. absurd (both_ways (rests_high (replicate (length p.cost + length p.rows) false) k) (no_flag (length p.cost + length p.rows) k) h);
        suit = λ k h. rw (no_flag (length p.cost + length p.rows) k) (inl (refl, cost_from_zero k));
      }
