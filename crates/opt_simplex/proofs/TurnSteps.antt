-- One turn of a regular tableau, and what it makes of the end.
use Rattle.std.proofs.Common.{◌≡◌, ◌≢◌, not, Bool, ℕ, suc, ◌+◌, ◌-◌, ◌<◌, ◌≤◌, List, [], length, pos, map, Option, Some, None, Result, Ok, Err, All, refl, ap, sym, subst, ◌∙◌, arith}
use mathlib.Core.Path.{Path}
use Rattle.std.specs.List.{slice_set}
use Rattle.std.proofs.lemmas.List.{length-append, length-map, get_or_default}
use Rattle.opt_sums.specs.Entries.{coef}
use Rattle.opt_sums.proofs.EntryLemmas.{coef-none}
use Rattle.opt_system.specs.Ranges.{Range, IsOrdered, LiesIn}
use Rattle.opt_system.specs.Systems.{System, IsLimited}
use Rattle.opt_frac.specs.Equations.{Equation}
use Rattle.opt_frac.specs.Elimination.{solution_for}
use Rattle.opt_frac.proofs.NeatSteps.{IsNeat, numbers-solution_for}
use Rattle.opt_simplex.specs.declared.end.LpEnd.{LpEnd}
use Rattle.opt_simplex.specs.declared.end.Why.{Why}
use Rattle.opt_simplex.specs.Variables.{Variables, variables_of}
use Rattle.opt_simplex.specs.Tableau.{Tableau, equation_at, start, stored}
use Rattle.opt_simplex.specs.Choice.{Leaving}
use Rattle.opt_simplex.specs.Pivot.{treatment, sweep_from, next_tableau}
use Rattle.opt_simplex.specs.Rule.{Look, Ends, Enters, stop, look_of, after, course, turns, end_of}
use Rattle.opt_simplex.specs.Soundness.{IsSound}
use Rattle.opt_simplex.specs.Shape.{IsAmong, IsShaped, IsOpenTo, MayPivot, MayTurn, MayGoOn}
use Rattle.opt_simplex.specs.Outcomes.{turn_of, pivot_of, Turns}
use Rattle.opt_simplex.proofs.Regular.{all_of, variables, IsRegular}
use Rattle.opt_simplex.proofs.Exchange.{apart_of_coef}
use Rattle.opt_simplex.proofs.Starts.{start-regular, length-row_equations}
use Rattle.opt_simplex.proofs.EndIsSound.{IsAsked, IsTrueLook, look_of_true, limited_fit, end_is_sound}

-- ---- a pivot from its parts
pub solution_for-basic : (col : ℕ) (e : Equation) → (solution_for col e).basic ≡ col
unfolding solution_for
solution_for-basic col e = refl

module _ (t : Tableau) (l : Leaving) (col : ℕ) where
  pub next_tableau-made : (es : List Equation) (n m : ℕ) (c : Equation)
      → sweep_from (solution_for col l.equation) l.position 0 (stored t) t.equations ≡ Ok (record { equations = es; count = n })
      → treatment (solution_for col l.equation) n t.cost ≡ Ok (record { equation = c; count = m })
      → next_tableau t l col ≡ Ok (record { equations = es; cost = c; at_high = slice_set t.at_high l.equation.basic (not l.below) })
  unfolding next_tableau
  next_tableau-made es n m c sweep cost = rw (sweep, cost) refl

  pub next_tableau-stops_in_sweep : (why : Why) → sweep_from (solution_for col l.equation) l.position 0 (stored t) t.equations ≡ Err why → next_tableau t l col ≡ Err why
  unfolding next_tableau
  next_tableau-stops_in_sweep why sweep = rw sweep refl

  pub next_tableau-stops_at_cost : (es : List Equation) (n : ℕ) (why : Why)
      → sweep_from (solution_for col l.equation) l.position 0 (stored t) t.equations ≡ Ok (record { equations = es; count = n })
      → treatment (solution_for col l.equation) n t.cost ≡ Err why → next_tableau t l col ≡ Err why
  unfolding next_tableau
  next_tableau-stops_at_cost es n why sweep cost = rw (sweep, cost) refl

-- the same, from what the calls of a pivot say of their arguments
module _ (t : Tableau) (l : Leaving) (col first : ℕ) (by cost : Equation) (es : List Equation) (by_is : by ≡ solution_for col l.equation)
    (first_is : first ≡ stored t) (es_is : es ≡ t.equations) (cost_is : cost ≡ t.cost) where
  sweep_is : sweep_from (solution_for col l.equation) l.position 0 (stored t) t.equations ≡ sweep_from by l.position 0 first es
  sweep_is =
      ap (λ b. sweep_from b l.position 0 (stored t) t.equations) (sym by_is) ∙ ap (λ n. sweep_from by l.position 0 n t.equations) (sym first_is)
      ∙ ap (λ xs. sweep_from by l.position 0 first xs) (sym es_is)

  cost_step_is : (n : ℕ) → treatment (solution_for col l.equation) n t.cost ≡ treatment by n cost
  cost_step_is n = ap (λ b. treatment b n t.cost) (sym by_is) ∙ ap (λ e. treatment by n e) (sym cost_is)

  pub next_tableau-sweep_fault : (why : Why) → sweep_from by l.position 0 first es ≡ Err why → next_tableau t l col ≡ Err why
  next_tableau-sweep_fault why h = next_tableau-stops_in_sweep t l col why (sweep_is ∙ h)

  pub next_tableau-cost_fault : (news : List Equation) (n : ℕ) (why : Why) → sweep_from by l.position 0 first es ≡ Ok (record { equations = news; count = n })
      → treatment by n cost ≡ Err why → next_tableau t l col ≡ Err why
  next_tableau-cost_fault news n why h k = next_tableau-stops_at_cost t l col news n why (sweep_is ∙ h) (cost_step_is n ∙ k)

  pub next_tableau-whole : (news : List Equation) (n m : ℕ) (c : Equation) (flags : List Bool)
      → sweep_from by l.position 0 first es ≡ Ok (record { equations = news; count = n })
      → treatment by n cost ≡ Ok (record { equation = c; count = m })
      → flags ≡ slice_set t.at_high l.equation.basic (not l.below)
      → next_tableau t l col ≡ Ok (record { equations = news; cost = c; at_high = flags })
  next_tableau-whole news n m c flags h k f =
      next_tableau-made t l col news n m c (sweep_is ∙ h) (cost_step_is n ∙ k)
      ∙ ap (λ fs. Ok (record { equations = news; cost = c; at_high = fs })) (sym f)

-- ---- what a turn makes of the end
ok_same : (a b : Tableau) → Path (Result Tableau LpEnd) (Ok a) (Ok b) → a ≡ b
ok_same a b h = cc

err_same : (a b : LpEnd) → Path (Result Tableau LpEnd) (Err a) (Err b) → a ≡ b
err_same a b h = cc

ok_err : (a : Tableau) (b : LpEnd) → Path (Result Tableau LpEnd) (Ok a) (Err b) → ⊥
ok_err a b h = cc

module _ (v : Variables) (done : ℕ) (t : Tableau) (left : ℕ) where
  abbrev go : Tableau → LpEnd
  go next = turns v left (done + 1) next

  next_of_pivot : (next : Tableau) (r : Result Tableau Why) → pivot_of v done t r ≡ Ok next → after v done t r (λ n. turns v left (done + 1) n) ≡ turns v left (done + 1) next
  next_of_pivot next (Ok n) k = ap (λ n. turns v left (done + 1) n) (ok_same n next k)
  next_of_pivot next (Err why) k = absurd (ok_err next (stop v why done t) (sym k))

  next_of_look : (next : Tableau) (look : Look) → turn_of v done t look ≡ Ok next → course v done t look (λ n. turns v left (done + 1) n) ≡ turns v left (done + 1) next
  next_of_look next (Ends end) k = absurd (ok_err next end (sym k))
  next_of_look next (Enters l col) k = next_of_pivot next (next_tableau t l col) k

  pub turns-next : (next : Tableau) → turn_of v done t (look_of v done t) ≡ Ok next → turns v (suc left) done t ≡ turns v left (done + 1) next
  turns-next next h = next_of_look next (look_of v done t) h

  end_of_pivot : (end : LpEnd) (r : Result Tableau Why) → pivot_of v done t r ≡ Err end → after v done t r (λ n. turns v left (done + 1) n) ≡ end
  end_of_pivot end (Ok n) k = absurd (ok_err n end k)
  end_of_pivot end (Err why) k = err_same (stop v why done t) end k

  end_of_look : (end : LpEnd) (look : Look) → turn_of v done t look ≡ Err end → course v done t look (λ n. turns v left (done + 1) n) ≡ end
  end_of_look end (Ends e) k = err_same e end k
  end_of_look end (Enters l col) k = end_of_pivot end (next_tableau t l col) k

  pub turns-ends : (end : LpEnd) → turn_of v done t (look_of v done t) ≡ Err end → turns v (suc left) done t ≡ end
  turns-ends end h = end_of_look end (look_of v done t) h

-- ---- what is kept
module _ (p : System) (box : Range) where
  -- how many variables have a range
  variables_each : IsLimited p → LiesIn p.root box → length (variables_of p box).low ≡ variables p
  variables_each limits inside =
      omega (
        arith,
        length-append box.low (map (λ row. row.right_hand_side) p.rows),
        length-map p.rows (λ row. row.right_hand_side),
        inside.same_length,
        limits.small.cost_each,
      )

  shaped_of : (n : ℕ) (t : Tableau) → n ≡ variables p → IsRegular p box t → length t.equations ≡ length p.rows → IsShaped n t
  shaped_of n t same regular rows =
      rw same
      (record {
        equations = among;
        cost = (regular.neat 0 (omega arith)).below;
        few = omega (arith, rows);
        flags = regular.flags;
      })
    where
      among : All (IsAmong (variables p)) t.equations
      among k d h =
          let neat : IsNeat (variables p) (equation_at t.equations k) = regular.neat (suc k) (omega (arith, h)) in
          rw (get_or_default t.equations k d (record { basic = 0; lead = pos 1; terms = [] }) h)
          (record { lead = neat.lead_positive; basic = regular.basics k h; terms = neat.below })

  -- the turned equation can take its variable's place in any other
  open_to : (t : Tableau) (position col j : ℕ) → IsRegular p box t → position < length t.equations
      → coef (equation_at t.equations position).terms col ≢ pos 0 → j < length (all_of t) → j ≢ suc position
      → IsOpenTo (solution_for col (equation_at t.equations position)) (equation_at (all_of t) j)
  unfolding solution_for
  open_to t position col j regular inside some j_inside apart =
      let neat : IsNeat (variables p) (equation_at t.equations position) = regular.neat (suc position) (omega (arith, inside)) in
      let none : coef (equation_at t.equations position).terms (equation_at (all_of t) j).basic ≡ pos 0 =
      regular.are_apart.no_term (suc position) j (omega (arith, inside)) j_inside in
      record {
        other = λ same. some (ap (coef (equation_at t.equations position).terms) (sym same) ∙ none);
        apart =
            coef-none (solution_for col (equation_at t.equations position)).terms (equation_at (all_of t) j).basic
            (numbers-solution_for (λ k. k ≢ (equation_at (all_of t) j).basic) col (equation_at t.equations position)
            (regular.are_apart.distinct (suc position) j (omega (arith, inside)) j_inside (λ e. apart (sym e)))
            (apart_of_coef (equation_at t.equations position).terms (equation_at (all_of t) j).basic neat.rising neat.no_zero none));
      }

  -- no equation has a term at a basic variable
  unused_in : (t : Tableau) (position i : ℕ) → IsRegular p box t → position < length t.equations → i < length t.equations
      → All (λ term. term.0 ≢ (equation_at t.equations position).basic) (equation_at t.equations i).terms
  unused_in t position i regular inside i_inside =
      let neat : IsNeat (variables p) (equation_at t.equations i) = regular.neat (suc i) (omega (arith, i_inside)) in
      apart_of_coef (equation_at t.equations i).terms (equation_at t.equations position).basic neat.rising neat.no_zero
      (regular.are_apart.no_term (suc i) (suc position) (omega (arith, i_inside)) (omega (arith, inside)))

  may_pivot_of : (t : Tableau) (l : Leaving) (col : ℕ) → IsRegular p box t → IsAsked p box t l col → MayPivot t l.position col
  may_pivot_of t l col regular asked =
      let some : coef (equation_at t.equations l.position).terms col ≢ pos 0 =
      λ z. asked.coefficient (ap (λ (e : Equation). coef e.terms col) asked.equation_is ∙ z) in
      record {
        inside = asked.inside;
        term = some;
        others = λ i h apart. open_to t l.position col (suc i) regular asked.inside some (omega (arith, h)) (λ e. apart (omega (arith, e)));
        cost = open_to t l.position col 0 regular asked.inside some (omega arith) (λ e. absurd (omega (arith, e)));
        unused = λ i h. unused_in t l.position i regular asked.inside h;
      }

  -- a regular tableau with an equation for each row
  pub record IsOnWay (t : Tableau) : Type 0 where
    pub regular : IsRegular p box t
    pub rows : length t.equations ≡ length p.rows

  pub on_way-start : IsLimited p → IsOrdered box → LiesIn p.root box → IsOnWay (start p)
  on_way-start limits box_ordered inside =
      record {
        regular = start-regular p box (limited_fit p box limits box_ordered inside);
        rows = length-row_equations (length p.cost) p.rows;
      }

  pub on_way-shaped : (t : Tableau) → IsLimited p → LiesIn p.root box → IsOnWay t → IsShaped (length (variables_of p box).low) t
  on_way-shaped t limits inside h = shaped_of (length (variables_of p box).low) t (variables_each limits inside) h.regular h.rows

  module _ (limits : IsLimited p) (box_ordered : IsOrdered box) (inside : LiesIn p.root box) where
    true_look : (t : Tableau) (done : ℕ) → IsRegular p box t → (look : Look) → look_of (variables_of p box) done t ≡ look → IsTrueLook p box t look
    true_look t done regular look h =
        subst (λ (k : Look). IsTrueLook p box t k) h (look_of_true p box (limited_fit p box limits box_ordered inside) t done regular)

    pub on_way-may_turn : (t : Tableau) (done : ℕ) → IsOnWay t → MayTurn (variables_of p box) done t
    on_way-may_turn t done h l col asks = may_pivot_of t l col h.regular (true_look t done h.regular (Enters l col) asks)

    pub on_way-next : (t next : Tableau) (done : ℕ) → IsOnWay t → turn_of (variables_of p box) done t (look_of (variables_of p box) done t) ≡ Ok next
        → length next.equations ≡ length t.equations → IsOnWay next
    on_way-next t next done h made same =
        record {
          regular = of_look (look_of (variables_of p box) done t) (true_look t done h.regular (look_of (variables_of p box) done t) refl) made;
          rows = same ∙ h.rows;
        }
      where
        of_pivot : (r : Result Tableau Why) → pivot_of (variables_of p box) done t r ≡ Ok next → ((n : Tableau) → r ≡ Ok n → IsRegular p box n) → IsRegular p box next
        of_pivot (Ok n) k go = let same : n ≡ next = ok_same n next k in rw same at (go n refl)
        of_pivot (Err why) k go = absurd (ok_err next (stop (variables_of p box) why done t) (sym k))

        of_look : (look : Look) → IsTrueLook p box t look → turn_of (variables_of p box) done t look ≡ Ok next → IsRegular p box next
        of_look (Ends end) tells k = absurd (ok_err next end (sym k))
        of_look (Enters l col) tells k = of_pivot (next_tableau t l col) k tells.next_regular

    pub on_way-goes_on : (t : Tableau) (done : ℕ) → IsOnWay t → MayGoOn (variables_of p box) done t
    on_way-goes_on t done h l col asks =
        λ next made same.
        on_way-shaped next limits inside
        (on_way-next t next done h (ap (turn_of (variables_of p box) done t) asks ∙ ap (pivot_of (variables_of p box) done t) made) same)

-- ---- the whole way
-- after so many pivots, the turns from this tableau reach the end
pub record IsRunning (p : System) (box : Range) (pivots : ℕ) (v : Variables) (done : ℕ) (t : Tableau) : Type 0 where
  pub variables_are : v ≡ variables_of p box
  pub left : turns v (pivots - done) done t ≡ end_of p box pivots
  pub on_way : IsOnWay p box t

module _ (p : System) (box : Range) (limits : IsLimited p) (box_ordered : IsOrdered box) (inside : LiesIn p.root box) (pivots : ℕ) where
  pub running-start : (v : Variables) (t : Tableau) → v ≡ variables_of p box → t ≡ start p → IsRunning p box pivots v 0 t
  running-start v t v_is t_is =
      let all : pivots - 0 ≡ pivots = omega arith in
      record {
        variables_are = v_is;
        left = ap (λ n. turns v n 0 t) all ∙ ap (λ w. turns w pivots 0 t) v_is ∙ ap (λ s. turns (variables_of p box) pivots 0 s) t_is;
        on_way = subst (IsOnWay p box) (sym t_is) (on_way-start p box limits box_ordered inside);
      }

  pub running-shaped : (v : Variables) (done : ℕ) (t : Tableau) → IsRunning p box pivots v done t → IsShaped (length v.low) t
  running-shaped v done t h =
      subst (λ (w : Variables). IsShaped (length w.low) t) (sym h.variables_are) (on_way-shaped p box t limits inside h.on_way)

  pub running-few : (v : Variables) (done : ℕ) (t : Tableau) → IsRunning p box pivots v done t → length v.low ≤ 40000
  running-few v done t h =
      omega (
        arith,
        ap (λ (w : Variables). length w.low) h.variables_are,
        variables_each p box limits inside,
        limits.few_rows,
        limits.small.cost_each,
        limits.small.few_quantities,
        limits.ordered.same_length,
      )

  pub running-may : (v : Variables) (done : ℕ) (t : Tableau) → IsRunning p box pivots v done t → MayTurn v done t
  running-may v done t h =
      subst (λ w. MayTurn w done t) (sym h.variables_are) (on_way-may_turn p box limits box_ordered inside t done h.on_way)

  pub running-goes_on : (v : Variables) (done : ℕ) (t : Tableau) → IsRunning p box pivots v done t → MayGoOn v done t
  running-goes_on v done t h =
      subst (λ w. MayGoOn w done t) (sym h.variables_are) (on_way-goes_on p box limits box_ordered inside t done h.on_way)

  pub running-next : (v : Variables) (done : ℕ) (t next : Tableau) → IsRunning p box pivots v done t → done < pivots
      → turn_of v done t (look_of v done t) ≡ Ok next → length next.equations ≡ length t.equations → IsRunning p box pivots v (done + 1) next
  running-next v done t next h below made same =
      let more : pivots - done ≡ suc (pivots - (done + 1)) = omega arith in
      record {
        variables_are = h.variables_are;
        left = sym (turns-next v done t (pivots - (done + 1)) next made) ∙ ap (λ n. turns v n done t) (sym more) ∙ h.left;
        on_way =
            on_way-next p box limits box_ordered inside t next done h.on_way
            (subst (λ w. turn_of w done t (look_of w done t) ≡ Ok next) h.variables_are made) same;
      }

  pub running-ends : (v : Variables) (done : ℕ) (t : Tableau) (end : LpEnd) → IsRunning p box pivots v done t → done < pivots
      → turn_of v done t (look_of v done t) ≡ Err end → end ≡ end_of p box pivots
  running-ends v done t end h below made =
      let more : pivots - done ≡ suc (pivots - (done + 1)) = omega arith in
      sym (turns-ends v done t (pivots - (done + 1)) end made) ∙ ap (λ n. turns v n done t) (sym more) ∙ h.left

  pub running-last : (v : Variables) (done : ℕ) (t : Tableau) (end : LpEnd) → IsRunning p box pivots v done t → done ≡ pivots
      → end ≡ turns v 0 pivots t → end ≡ end_of p box pivots
  running-last v done t end h all last =
      let none : pivots - done ≡ 0 = omega arith in
      last ∙ ap (λ n. turns v 0 n t) (sym all) ∙ ap (λ n. turns v n done t) (sym none) ∙ h.left

  pub end-sound : (end : LpEnd) → end ≡ end_of p box pivots → IsSound p box end
  end-sound end h = subst (IsSound p box) (sym h) (end_is_sound p box pivots limits box_ordered inside)

-- the variables are those of the box
pub running-at : (p : System) (box : Range) (pivots : ℕ) (v : Variables) (done : ℕ) (t : Tableau) → v ≡ variables_of p box
    → IsRunning p box pivots (variables_of p box) done t → IsRunning p box pivots v done t
running-at p box pivots v done t is h =
    record { variables_are = is; left = ap (λ w. turns w (pivots - done) done t) is ∙ h.left; on_way = h.on_way }

pub running-of : (p : System) (box : Range) (pivots : ℕ) (v : Variables) (done : ℕ) (t : Tableau) → IsRunning p box pivots v done t
    → IsRunning p box pivots (variables_of p box) done t
running-of p box pivots v done t h =
    record { variables_are = refl; left = ap (λ w. turns w (pivots - done) done t) (sym h.variables_are) ∙ h.left; on_way = h.on_way }

-- what a turn answers
pub turns-some : (found : Option LpEnd) (end : LpEnd) (next : Tableau) (made : Result Tableau LpEnd) → found ≡ Some end → Turns found next made
    → made ≡ Err end
turns-some found end next made is h = subst (λ f. Turns f next made) is h

pub turns-none : (found : Option LpEnd) (next : Tableau) (made : Result Tableau LpEnd) → found ≡ None → Turns found next made → made ≡ Ok next
turns-none found next made is h = subst (λ f. Turns f next made) is h
