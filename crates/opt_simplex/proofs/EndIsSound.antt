-- Whatever end the simplex reaches says the truth of the box.
use Rattle.std.proofs.Common.{◌≡◌, ◌≢◌, not, inl, inr, ℕ, zero, suc, ◌+◌, ◌<◌, Bool, true, false, List, length, ℤ, pos, Option, Some, None, Result, Ok, Err, refl, ap, sym, ◌∙◌, arith}
use Rattle.std.specs.List.{slice_set}
use Rattle.opt_sums.specs.Sums.{at}
use Rattle.opt_sums.specs.Entries.{coef}
use Rattle.opt_sums.proofs.RisingLemmas.{coef-get_or}
use Rattle.opt_system.specs.Ranges.{Range, IsOrdered, LiesIn}
use Rattle.opt_system.specs.Systems.{System, IsLimited}
use Rattle.opt_system.proofs.LimitLemmas.{terms_in}
use Rattle.opt_frac.specs.Equations.{Equation}
use Rattle.opt_frac.specs.Elimination.{solution_for}
use Rattle.opt_frac.proofs.NeatSteps.{IsNeat}
use Rattle.opt_simplex.specs.declared.end.LpEnd.{LpEnd}
use Rattle.opt_simplex.specs.declared.end.Why.{Why}
use Rattle.opt_simplex.specs.Variables.{Variables, variables_of, high_of, resting}
use Rattle.opt_simplex.specs.Tableau.{Tableau, start, equation_at}
use Rattle.opt_simplex.specs.Choice.{Leaving, values, leaving_from, entering_from}
use Rattle.opt_simplex.specs.Pivot.{next_tableau}
use Rattle.opt_simplex.specs.Rule.{Look, Ends, Enters, entering, leaving, look_with_values, look_of, after, course, end_at_limit, turns, end_of}
use Rattle.opt_simplex.specs.Soundness.{IsSound}
use Rattle.opt_simplex.proofs.Suiting.{IsThere}
use Rattle.opt_simplex.proofs.Regular.{all_of, variables, IsRegular}
use Rattle.opt_simplex.proofs.Sweeps.{IsSwept, next_tableau-is}
use Rattle.opt_simplex.proofs.Choices.{AreValues, values-are, IsOut, IsLeaving, leaving-some, leaving-none}
use Rattle.opt_simplex.proofs.Entries.{IsBest, entering-some, entering-none}
use Rattle.opt_simplex.proofs.Pivoting.{IsPivot, pivot-regular}
use Rattle.opt_simplex.proofs.Starts.{IsFit, start-regular}
use Rattle.opt_simplex.proofs.Empties.{cost_dual, empty_shown}
use Rattle.opt_simplex.proofs.Optima.{optimal}

-- a pivot that is asked for: the leaving equation stands at its position and has a term at the entering variable, and
-- the next tableau is regular
pub record IsAsked (p : System) (box : Range) (t : Tableau) (l : Leaving) (col : ℕ) : Type 0 where
  pub inside : l.position < length t.equations
  pub equation_is : l.equation ≡ equation_at t.equations l.position
  pub coefficient : coef l.equation.terms col ≢ pos 0
  pub next_regular : (next : Tableau) → next_tableau t l col ≡ Ok next → IsRegular p box next

-- what a look at a regular tableau says: a true end, or a pivot that keeps the next one regular
abbrev pub IsTrueLook : System → Range → Tableau → Look → Type 0
IsTrueLook p box t (Ends end) = IsSound p box end
IsTrueLook p box t (Enters l col) = IsAsked p box t l col

module _ (p : System) (box : Range) (fit : IsFit p box) where
  out_there : (v : Variables) (e : Equation) (z : ℤ) (below : Bool) → IsOut v e z below → below ≡ false → IsThere (high_of v e.basic)
  out_there v e z true o same = cc
  out_there v e z false o same = (o.0, o.1)

  entering_true : (t : Tableau) (done : ℕ) (zs : List ℤ) (l : Leaving) → IsRegular p box t
      → AreValues (resting (variables_of p box) t.at_high) t.equations zs → IsLeaving (variables_of p box) 0 t.equations zs l
      → (chosen : Option (ℕ × ℤ)) → entering_from
      (variables_of p box) t.at_high l.below t.cost None l.equation.terms ≡ chosen → IsTrueLook p box t
      (entering (variables_of p box) done l chosen)
  entering_true t done zs l regular are is None made =
      let at_index : l.equation ≡ equation_at t.equations is.index = is.equation_is in
      let helpless : entering_from (variables_of p box) t.at_high l.below t.cost None (equation_at t.equations is.index).terms ≡ None =
      rw at_index at made in
      rw at_index
      (empty_shown p box t fit.fit_box regular is.index l.below is.inside
      (rw (are.each is.index is.inside) at is.out)
      (entering-none (variables_of p box) t.at_high l.below t.cost None (equation_at t.equations is.index).terms helpless).1)
  entering_true t done zs l regular are is (Some d) made =
      let at_index : l.equation ≡ equation_at t.equations is.index = is.equation_is in
      let position : l.position ≡ is.index = omega (arith, is.position_is) in
      let chosen : entering_from (variables_of p box) t.at_high l.below t.cost None (equation_at t.equations is.index).terms ≡ Some d =
      rw at_index at made in
      let best : IsBest (variables_of p box) t.at_high l.below t.cost None (equation_at t.equations is.index).terms d =
      entering-some (variables_of p box) t.at_high l.below t.cost None (equation_at t.equations is.index).terms d
      (λ b e. absurd (none_some b e)) chosen in
      let neat : IsNeat (variables p) (equation_at t.equations is.index) = regular.neat (suc is.index) (omega (arith, is.inside)) in
      record {
        inside = omega (arith, position, is.inside);
        equation_is = at_index ∙ ap (equation_at t.equations) (sym position);
        coefficient = λ none. of_term neat best (ap (λ (e : Equation). coef e.terms d.0) (sym at_index) ∙ none);
        next_regular = λ next pivots.
            let sweep : IsSwept (solution_for d.0 l.equation) (suc l.position) (all_of t) (all_of next) × (next.at_high ≡ slice_set t.at_high l.equation.basic (not l.below)) =
            next_tableau-is t next l d.0 pivots (omega (arith, position, is.inside)) in
            pivot-regular p box t next is.index l.below d (of_best next best (rw (at_index, position) at sweep));
      }
    where
      none_some : (b : ℕ × ℤ) → None ≡ Some b → ⊥
      none_some b e = cc

      of_term : IsNeat (variables p) (equation_at t.equations is.index)
          → IsBest (variables_of p box) t.at_high l.below t.cost None (equation_at t.equations is.index).terms d
          → coef (equation_at t.equations is.index).terms d.0 ≡ pos 0 → ⊥
      of_term neat best none =
          elim best.from [
            | inl nothing ↦ none_some d nothing
            | inr there ↦
                let same : coef (equation_at t.equations is.index).terms d.0 ≡ d.1 =
                ap (λ (e : ℕ × ℤ). coef (equation_at t.equations is.index).terms e.0) (sym there.1.2)
                ∙ coef-get_or (equation_at t.equations is.index).terms there.1.0 d neat.rising there.1.1
                ∙ ap (λ (e : ℕ × ℤ). e.1) there.1.2 in
                neat.no_zero there.1.0 d there.1.1 (ap (λ (e : ℕ × ℤ). e.1) there.1.2 ∙ sym same ∙ none)
          ]

      of_best : (next : Tableau) → IsBest (variables_of p box) t.at_high l.below t.cost None (equation_at t.equations is.index).terms d
          → IsSwept (solution_for d.0 (equation_at t.equations is.index)) (suc is.index) (all_of t) (all_of next) ×
          (next.at_high ≡ slice_set t.at_high (equation_at t.equations is.index).basic (not l.below))
          → IsPivot p box t next is.index l.below d
      of_best next best sweep =
          elim best.from [
            | inl none ↦ absurd (none_some d none)
            | inr there ↦
                record {
                  regular = regular;
                  inside = is.inside;
                  out = out_there (variables_of p box) (equation_at t.equations is.index) (at zs is.index) l.below is.out;
                  index = there.1.0;
                  index_inside = there.1.1;
                  term = there.1.2;
                  may = there.0;
                  least = best.least;
                  sweep = sweep.0;
                  at_high = sweep.1;
                }
          ]

  -- the choices of a regular tableau ask for a pivot
  pub asked : (t : Tableau) (zs : List ℤ) (l : Leaving) (d : ℕ × ℤ) → IsRegular p box t
      → values (resting (variables_of p box) t.at_high) t.equations ≡ Some zs
      → leaving_from (variables_of p box) 0 None t.equations zs ≡ Some l → entering_from
      (variables_of p box) t.at_high l.below t.cost None l.equation.terms ≡ Some d → IsAsked p box t l d.0
  asked t zs l d regular valued_as leaves enters =
      elim (leaving-some (variables_of p box) 0 None t.equations zs l leaves) [
        | inl none ↦ absurd (none_some none)
        | inr is ↦ entering_true t 0 zs l regular (values-are (resting (variables_of p box) t.at_high) t.equations zs valued_as) is (Some d) enters
      ]
    where
      none_some : None ≡ Some l → ⊥
      none_some e = cc

  leaving_true : (t : Tableau) (done : ℕ) (zs : List ℤ) → IsRegular p box t → AreValues (resting (variables_of p box) t.at_high) t.equations zs
      → (chosen : Option Leaving) → leaving_from (variables_of p box) 0 None t.equations zs ≡ chosen → IsTrueLook p box t
      (leaving (variables_of p box) done t zs chosen)
  leaving_true t done zs regular are None made =
      (cost_dual p box t fit.fit_box regular, optimal p box t fit.fit_box regular zs are (leaving-none (variables_of p box) 0 None t.equations zs are.same_length made).1)
  leaving_true t done zs regular are (Some l) made =
      elim (leaving-some (variables_of p box) 0 None t.equations zs l made) [
        | inl none ↦ absurd (none_some l none)
        | inr is ↦ entering_true t done zs l regular are is (entering_from (variables_of p box) t.at_high l.below t.cost None l.equation.terms) refl
      ]
    where
      none_some : (b : Leaving) → None ≡ Some b → ⊥
      none_some b e = cc

  look_with_values_true : (t : Tableau) (done : ℕ) → IsRegular p box t → (found : Option (List ℤ))
      → values (resting (variables_of p box) t.at_high) t.equations ≡ found → IsTrueLook p box t (look_with_values (variables_of p box) done t found)
  look_with_values_true t done regular None made = cost_dual p box t fit.fit_box regular
  look_with_values_true t done regular (Some zs) made =
      leaving_true t done zs regular (values-are (resting (variables_of p box) t.at_high) t.equations zs made)
      (leaving_from (variables_of p box) 0 None t.equations zs) refl

  pub look_of_true : (t : Tableau) (done : ℕ) → IsRegular p box t → IsTrueLook p box t (look_of (variables_of p box) done t)
  look_of_true t done regular = look_with_values_true t done regular (values (resting (variables_of p box) t.at_high) t.equations) refl

  end_at_limit_true : (t : Tableau) (done : ℕ) → IsRegular p box t → (look : Look) → IsTrueLook p box t look
      → IsSound p box (end_at_limit (variables_of p box) done t look)
  end_at_limit_true t done regular (Ends end) true_look = true_look
  end_at_limit_true t done regular (Enters l col) asked_for = cost_dual p box t fit.fit_box regular

  after_true : (t : Tableau) (done : ℕ) (go : Tableau → LpEnd) → IsRegular p box t → (made : Result Tableau Why)
      → ((next : Tableau) → made ≡ Ok next → IsSound p box (go next)) → IsSound p box (after (variables_of p box) done t made go)
  after_true t done go regular (Err why) more = cost_dual p box t fit.fit_box regular
  after_true t done go regular (Ok next) more = more next refl

  course_true : (t : Tableau) (done : ℕ) (go : Tableau → LpEnd) → IsRegular p box t → (look : Look) → IsTrueLook p box t look
      → ((next : Tableau) → IsRegular p box next → IsSound p box (go next))
      → IsSound p box (course (variables_of p box) done t look go)
  course_true t done go regular (Ends end) true_look more = true_look
  course_true t done go regular (Enters l col) true_look more =
      after_true t done go regular (next_tableau t l col) (λ next made. more next (true_look.next_regular next made))

  turns_sound : (left done : ℕ) (t : Tableau) → IsRegular p box t → IsSound p box (turns (variables_of p box) left done t)
  turns_sound zero done t regular = end_at_limit_true t done regular (look_of (variables_of p box) done t) (look_of_true t done regular)
  turns_sound (suc left) done t regular =
      course_true t done (λ next. turns (variables_of p box) left (done + 1) next) regular (look_of (variables_of p box) done t)
      (look_of_true t done regular)
      (λ next next_regular. turns_sound left (done + 1) next next_regular)

  fit_sound : (pivots : ℕ) → IsSound p box (end_of p box pivots)
  fit_sound pivots = turns_sound pivots 0 (start p) (start-regular p box fit)

-- a system within its limits and a box within its root are fit
pub limited_fit : (p : System) (box : Range) → IsLimited p → IsOrdered box → LiesIn p.root box → IsFit p box
limited_fit p box limits box_ordered inside =
    let lows : length box.low ≡ length p.cost = inside.same_length ∙ sym limits.small.cost_each in
    record {
      fit_box = record {
        lows = lows;
        highs = sym box_ordered.same_length ∙ lows;
        ordered = λ j below. box_ordered.rising j (omega (arith, lows, below));
        terms = terms_in p.rows p.root p.cost limits.small limits.ordered;
      };
      even = limits.even;
      costs = limits.small.costs.from_zero;
    }

-- the end of the simplex on a box within the root is true of the box
pub end_is_sound : (p : System) (box : Range) (pivots : ℕ) → IsLimited p → IsOrdered box → LiesIn p.root box → IsSound p box (end_of p box pivots)
end_is_sound p box pivots limits box_ordered inside = fit_sound p box (limited_fit p box limits box_ordered inside) pivots
