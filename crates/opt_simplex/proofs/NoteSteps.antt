-- The values that are noted: one of them noted anew, all of them asked, and what a pivot leaves.
use Rattle.std.proofs.Common.{◌≡◌, ◌≢◌, ◌⊎◌, inl, inr, ℕ, zero, suc, ◌+◌, ◌<◌, Bool, true, false, not, List, [], ◌∷◌, length, get_or, set, ℤ, pos, unsigned_abs, Option, Some, None, Ok, All, Contains, refl, ap, sym, subst, ◌∙◌, arith}
use Rattle.std.specs.List.{slice_index_or, slice_set}
use Rattle.std.proofs.lemmas.Int.{ints}
use Rattle.std.proofs.lemmas.Bool.{cases_eq}
use Rattle.std.proofs.lemmas.List.{length-set, get_or-set_same, get_or-set_other}
use Rattle.opt_sums.specs.Sums.{at}
use Rattle.opt_sums.specs.Entries.{coef}
use Rattle.opt_frac.specs.Equations.{Equation}
use Rattle.opt_frac.specs.Elimination.{solution_for}
use Rattle.opt_simplex.specs.declared.end.Why.TheVariants.{Wide}
use Rattle.opt_simplex.specs.Variables.{Variables, resting}
use Rattle.opt_simplex.specs.Tableau.{Tableau, equation_at}
use Rattle.opt_simplex.specs.Choice.{Leaving, sum_from, values, leaving_from}
use Rattle.opt_simplex.specs.Columns.{positions_from}
use Rattle.opt_simplex.specs.Pivot.{next_tableau}
use Rattle.opt_simplex.specs.Rule.{Look, Ends, Enters, stop, leaving, look_of}
use Rattle.opt_simplex.specs.Shape.{MayPivot}
use Rattle.opt_simplex.specs.Values.{Values, IsNoted, AreNotedBut, AreNoted, AreSides, LeavesBy, side_of, side_at}
use Rattle.opt_simplex.proofs.Sweeps.{IsSwept, next_tableau-is}
use Rattle.opt_simplex.proofs.Regular.{all_of}
use Rattle.opt_simplex.proofs.KeptValues.{value_kept}
use Rattle.opt_simplex.proofs.ValueSteps.{values-all, values-wide}
use Rattle.opt_simplex.proofs.PositionSteps.{positions-without}

-- ---- one value
-- the value of the equation at the position, from what the calls say of their arguments
pub value-of : (v : Variables) (t : Tableau) (i : ℕ) (flags : List Bool) (e : Equation) (terms : List (ℕ × ℤ)) (found answer : Option ℤ)
    → flags ≡ t.at_high → e ≡ equation_at t.equations i → terms ≡ e.terms → found ≡ sum_from (resting v flags) (pos 0) terms → found ≡ answer
    → sum_from (resting v t.at_high) (pos 0) (equation_at t.equations i).terms ≡ answer
value-of v t i flags e terms found answer flags_are e_is terms_are found_is answer_is =
    ap (λ (d : Equation). sum_from (resting v t.at_high) (pos 0) d.terms) (sym e_is)
    ∙ ap (sum_from (resting v t.at_high) (pos 0)) (sym terms_are)
    ∙ ap (λ fs. sum_from (resting v fs) (pos 0) terms) (sym flags_are) ∙ sym found_is ∙ answer_is

cons_cases : (y x : ℕ) (xs : List ℕ) → Contains (y ∷ xs) x → (y ≡ x) ⊎ Contains xs x
cons_cases y x xs h = by_place h.0 h.1 h.2
  where
    by_place : (k : ℕ) → k < length (y ∷ xs) → slice_index_or (y ∷ xs) k x ≡ x → (y ≡ x) ⊎ Contains xs x
    by_place zero inside is = inl is
    by_place (suc k) inside is = inr (k, omega (arith, inside), is)

module _ (v : Variables) (t : Tableau) (k : Values) (i : ℕ) (others : List ℕ) (h : AreNotedBut v t k (i ∷ others)) (inside : i < length t.equations) where
  -- a value that fits
  pub noted-number : (z : ℤ) → sum_from (resting v t.at_high) (pos 0) (equation_at t.equations i).terms ≡ Some z
      → AreNotedBut v t (record { wide = k.wide; numbers = set k.numbers i z; sides = set k.sides i (side_of v (equation_at t.equations i) z) }) others
  noted-number z is =
      record {
        numbers_each = length-set k.numbers i z ∙ h.numbers_each;
        sides_each = length-set k.sides i (side_of v (equation_at t.equations i) z) ∙ h.sides_each;
        wide = h.wide;
        noted = noted_at;
      }
    where
      news : Values
      news = record { wide = k.wide; numbers = set k.numbers i z; sides = set k.sides i (side_of v (equation_at t.equations i) z) }

      number_here : at (set k.numbers i z) i ≡ z
      number_here = get_or-set_same k.numbers i z (pos 0) (omega (arith, inside, h.numbers_each))

      here : IsNoted v t (record { wide = k.wide; numbers = set k.numbers i z; sides = set k.sides i (side_of v (equation_at t.equations i) z) }) i
      here =
          record {
            number = is ∙ ap Some (sym number_here);
            side =
                get_or-set_same k.sides i (side_of v (equation_at t.equations i) z) None (omega (arith, inside, h.sides_each))
                ∙ ap (side_of v (equation_at t.equations i)) (sym number_here);
          }

      elsewhere : (j : ℕ) → (j ≡ i → ⊥) → IsNoted v t k j
          → IsNoted v t (record { wide = k.wide; numbers = set k.numbers i z; sides = set k.sides i (side_of v (equation_at t.equations i) z) }) j
      elsewhere j apart n =
          let same : at (set k.numbers i z) j ≡ at k.numbers j = get_or-set_other k.numbers i j z (pos 0) apart in
          record {
            number = n.number ∙ ap Some (sym same);
            side =
                get_or-set_other k.sides i j (side_of v (equation_at t.equations i) z) None apart ∙ n.side
                ∙ ap (side_of v (equation_at t.equations j)) (sym same);
          }

      noted_at : k.wide ≡ false → (j : ℕ) → j < length t.equations → (Contains others j → ⊥)
          → IsNoted v t (record { wide = k.wide; numbers = set k.numbers i z; sides = set k.sides i (side_of v (equation_at t.equations i) z) }) j
      noted_at narrow j j_inside apart = by_test (cases_eq j i)
        where
          by_test : (j ≡ i) ⊎ (j ≡ i → ⊥)
              → IsNoted v t (record { wide = k.wide; numbers = set k.numbers i z; sides = set k.sides i (side_of v (equation_at t.equations i) z) }) j
          by_test (inl same) = subst (IsNoted v t (record { wide = k.wide; numbers = set k.numbers i z; sides = set k.sides i (side_of v (equation_at t.equations i) z) })) (sym same) here
          by_test (inr other) =
              elsewhere j other (h.noted narrow j j_inside (λ m. by_case (cons_cases i j others m)))
            where
              by_case : (i ≡ j) ⊎ Contains others j → ⊥
              by_case (inl same) = other (sym same)
              by_case (inr m) = apart m

  -- a value that does not fit
  pub noted-wide : sum_from (resting v t.at_high) (pos 0) (equation_at t.equations i).terms ≡ None
      → AreNotedBut v t (record { wide = true; numbers = k.numbers; sides = k.sides }) others
  noted-wide is =
      record {
        numbers_each = h.numbers_each;
        sides_each = h.sides_each;
        wide = λ _. values-wide (resting v t.at_high) t.equations i inside is;
        noted = λ narrow. absurd (apart narrow);
      }
    where
      apart : true ≡ false → ⊥
      apart e = cc

-- ---- all values
none_left : (i : ℕ) → Contains [] i → ⊥
none_left i m = omega (arith, m.1)

-- none is known yet, and all are to be noted
pub noted-none : (v : Variables) (t : Tableau) (k : Values) (listed : List ℕ) → length k.numbers ≡ length t.equations
    → length k.sides ≡ length t.equations → k.wide ≡ false → ((i : ℕ) → i < length t.equations → Contains listed i) → AreNotedBut v t k listed
noted-none v t k listed numbers sides narrow all =
    record {
      numbers_each = numbers;
      sides_each = sides;
      wide = λ w. absurd (apart (sym w ∙ narrow));
      noted = λ _ i inside out. absurd (out (all i inside));
    }
  where
    apart : true ≡ false → ⊥
    apart e = cc

module _ (v : Variables) (t : Tableau) (k : Values) (h : AreNoted v t k) where
  pub noted-values : k.wide ≡ false → values (resting v t.at_high) t.equations ≡ Some k.numbers
  noted-values narrow =
      values-all (resting v t.at_high) t.equations k.numbers h.numbers_each (λ i inside. (h.noted narrow i inside (none_left i)).number)

  pub noted-sides : k.wide ≡ false → AreSides v t.equations k.numbers k.sides
  noted-sides narrow =
      record { same_length = h.numbers_each; each = λ i inside. (h.noted narrow i inside (none_left i)).side }

  pub noted-stops : (done : ℕ) → k.wide ≡ true → look_of v done t ≡ Ends (stop v Wide done t)
  noted-stops done wide = rw (h.wide wide) refl

  pub noted-look : (done : ℕ) → k.wide ≡ false → look_of v done t ≡ leaving v done t k.numbers (leaving_from v 0 None t.equations k.numbers)
  noted-look done narrow = rw (noted-values narrow) refl

  -- where a pivot is asked for, all values fit
  pub noted-narrow : (done : ℕ) (l : Leaving) (col : ℕ) → look_of v done t ≡ Enters l col → k.wide ≡ false
  noted-narrow done l col asks = by_flag k.wide refl
    where
      apart : (end : _) → Ends end ≡ Enters l col → ⊥
      apart end e = cc

      by_flag : (b : Bool) → k.wide ≡ b → k.wide ≡ false
      by_flag false is = is
      by_flag true is = absurd (apart (stop v Wide done t) (sym (noted-stops done is) ∙ asks))

-- ---- a pivot: an equation without a term at the entering variable keeps its value
module _ (v : Variables) (t next : Tableau) (l : Leaving) (col : ℕ) (k : Values) (listed : List ℕ) (made : next_tableau t l col ≡ Ok next)
    (may : MayPivot t l.position col) (equation_is : l.equation ≡ equation_at t.equations l.position) (listed_is : listed ≡ positions_from col 0 t.equations)
    (h : AreNoted v t k) (narrow : k.wide ≡ false) where
  is : IsSwept (solution_for col l.equation) (suc l.position) (all_of t) (all_of next) × (next.at_high ≡ slice_set t.at_high l.equation.basic (not l.below))
  is = next_tableau-is t next l col made may.inside

  same_length : length next.equations ≡ length t.equations
  same_length = omega (arith, is.0.same_length)

  equation_kept : (i : ℕ) → i < length t.equations → (Contains listed i → ⊥) → equation_at next.equations i ≡ equation_at t.equations i
  unfolding solution_for
  equation_kept i inside out =
      let size : unsigned_abs (coef (equation_at t.equations i).terms col) ≡ 0 =
      positions-without col t.equations i inside (λ m. out (subst (λ ps. Contains ps i) (sym listed_is) m)) in
      let none : coef (equation_at t.equations i).terms col ≡ pos 0 = omega (arith, ints, size) in
      let apart : i ≢ l.position = λ same. may.term (ap (λ j. coef (equation_at t.equations j).terms col) (sym same) ∙ none) in
      (is.0.others (suc i) (omega (arith, inside)) (λ same. apart (omega (arith, same)))).same none

  noted_kept : (i : ℕ) → i < length t.equations → (Contains listed i → ⊥) → IsNoted v next k i
  noted_kept i inside out =
      let same : equation_at next.equations i ≡ equation_at t.equations i = equation_kept i inside out in
      let noted : IsNoted v t k i = h.noted narrow i inside (none_left i) in
      let unused : All (λ term. term.0 ≢ l.equation.basic) (equation_at t.equations i).terms =
      subst (λ (e : Equation). All (λ term. term.0 ≢ e.basic) (equation_at t.equations i).terms) (sym equation_is) (may.unused i inside) in
      record {
        number =
            ap (λ (e : Equation). sum_from (resting v next.at_high) (pos 0) e.terms) same
            ∙ ap (λ flags. sum_from (resting v flags) (pos 0) (equation_at t.equations i).terms) is.1
            ∙ value_kept v t.at_high l.equation.basic (not l.below) (pos 0) (equation_at t.equations i).terms unused
            ∙ noted.number;
        side = noted.side ∙ ap (λ e. side_of v e (at k.numbers i)) (sym same);
      }

  pub noted-pivot : AreNotedBut v next k listed
  noted-pivot =
      record {
        numbers_each = h.numbers_each ∙ sym same_length;
        sides_each = h.sides_each ∙ sym same_length;
        wide = λ wide. absurd (apart (sym wide ∙ narrow));
        noted = λ _ i inside out. noted_kept i (omega (arith, inside, same_length)) out;
      }
    where
      apart : true ≡ false → ⊥
      apart e = cc

-- what is asked for where this variable leaves, or none does
pub noted-chosen : (v : Variables) (t : Tableau) (k : Values) (done : ℕ) (sides : List (Option Bool)) (es : List Equation) (chosen : Option Leaving)
    → AreNoted v t k → k.wide ≡ false → es ≡ t.equations → sides ≡ k.sides → LeavesBy es sides chosen
    → look_of v done t ≡ leaving v done t k.numbers chosen
noted-chosen v t k done sides es chosen h narrow es_are sides_are leaves =
    let same : LeavesBy t.equations k.sides chosen =
    subst (λ ss. LeavesBy t.equations ss chosen) sides_are (subst (λ ds. LeavesBy ds sides chosen) es_are leaves) in
    noted-look v t k h done narrow ∙ ap (leaving v done t k.numbers) (sym (same v k.numbers (noted-sides v t k h narrow)))
