-- The choices of the leaving and the entering variable, one equation and one term at a time.
use Rattle.std.proofs.Common.{◌≡◌, ℕ, ◌+◌, ◌<◌, ◌≤◌, ◌*ℤ◌, if◌then◌else◌, Bool, true, false, List, [], ◌∷◌, length, get_or, drop, ℤ, pos, Option, Some, None, option_map, is_some, IfSome, refl, ap, sym, ◌∙◌, arith}
use Rattle.std.specs.Prelude.{int_lt}
use Rattle.std.proofs.lemmas.List.{drop_more, drop_all}
use Rattle.opt_sums.specs.Sums.{at}
use Rattle.opt_frac.specs.Equations.{Equation}
use Rattle.opt_simplex.specs.declared.choice.Leaving.{Leaving as Place}
use Rattle.opt_simplex.specs.Variables.{Variables, low_of, high_of}
use Rattle.opt_simplex.specs.Tableau.{equation_at}
use Rattle.opt_simplex.specs.Choice.{Leaving, is_above, out_of_range, lesser, leaving_from, may_enter, better, entering_from}
use Rattle.opt_simplex.specs.Values.{AreSides, LeavesBy, side_of, side_at}
use Rattle.opt_simplex.specs.Outcomes.{leaving_at}

-- the leaving variable of this equation, where the place is its position
pub leaving_at-here : (es : List Equation) (i : ℕ) (e : Equation) (found : Option Place) → IfSome found (λ l. l.position ≡ i)
    → e ≡ equation_at es i
    → option_map (leaving_at es) found ≡ option_map (λ l. record { position = l.position; equation = e; below = l.below }) found
leaving_at-here es i e None h is = refl
leaving_at-here es i e (Some l) h is =
    ap (λ d. Some (record { position = l.position; equation = d; below = l.below })) (ap (equation_at es) h ∙ sym is)

-- one equation more
pub leaving_from-step : (v : Variables) (best : Option Leaving) (es : List Equation) (zs : List ℤ) (i : ℕ) → i < length es → i < length zs
    → leaving_from v i best (drop i es) (drop i zs)
    ≡ leaving_from v (i + 1) (lesser best (out_of_range v i (equation_at es i) (at zs i))) (drop (i + 1) es) (drop (i + 1) zs)
leaving_from-step v best es zs i h k =
    ap (λ ds. leaving_from v i best ds (drop i zs)) (drop_more es i (record { basic = 0; lead = pos 1; terms = [] }) h)
    ∙ ap (λ ys. leaving_from v i best (equation_at es i ∷ drop (i + 1) es) ys) (drop_more zs i (pos 0) k)

pub leaving_from-more : (v : Variables) (es : List Equation) (zs : List ℤ) (i : ℕ) (e : Equation) (z : ℤ) (best found next : Option Place)
    (start : Option Leaving) → i < length es → i < length zs → e ≡ equation_at es i → z ≡ at zs i
    → leaving_from v i (option_map (leaving_at es) best) (drop i es) (drop i zs) ≡ start
    → IfSome found (λ l. l.position ≡ i)
    → option_map (λ l. record { position = l.position; equation = e; below = l.below }) found ≡ out_of_range v i e z
    → option_map (leaving_at es) next ≡ lesser (option_map (leaving_at es) best) (option_map (leaving_at es) found)
    → leaving_from v (i + 1) (option_map (leaving_at es) next) (drop (i + 1) es) (drop (i + 1) zs) ≡ start
leaving_from-more v es zs i e z best found next start h k is z_is now here out step =
    let seen : option_map (leaving_at es) found ≡ out_of_range v i (equation_at es i) (at zs i) =
    leaving_at-here es i e found here is ∙ out ∙ ap (λ d. out_of_range v i d z) is ∙ ap (out_of_range v i (equation_at es i)) z_is in
    ap (λ b. leaving_from v (i + 1) b (drop (i + 1) es) (drop (i + 1) zs))
    (step ∙ ap (lesser (option_map (leaving_at es) best)) seen)
    ∙ sym (leaving_from-step v (option_map (leaving_at es) best) es zs i h k) ∙ now

-- one term more
pub entering_from-step : (v : Variables) (at_high : List Bool) (below : Bool) (cost : Equation) (best : Option (ℕ × ℤ)) (ds : List (ℕ × ℤ)) (i : ℕ)
    (d : ℕ × ℤ) → i < length ds
    → entering_from v at_high below cost best (drop i ds)
    ≡ entering_from v at_high below cost (if may_enter v at_high below (get_or ds i d) then better cost best (get_or ds i d) else best) (drop (i + 1) ds)
entering_from-step v at_high below cost best ds i d h = ap (entering_from v at_high below cost best) (drop_more ds i d h)

-- ---- by the sides of the values
pub no_side : (side : Option Bool) → is_some side ≡ false → side ≡ None
no_side None none = refl
no_side (Some below) none = cc

abbrev with_side : ℕ → Equation → Bool → Leaving
with_side i e below = record { position = i; equation = e; below = below }

out_of_side : (v : Variables) (i : ℕ) (e : Equation) (z : ℤ) → option_map (with_side i e) (side_of v e z) ≡ out_of_range v i e z
out_of_side v i e z = by_tests (int_lt z (low_of v e.basic *ℤ e.lead)) (is_above z e.lead (high_of v e.basic))
  where
    by_tests : (a b : Bool)
        → option_map (with_side i e) (if a then Some true else if b then Some false else None)
        ≡ (if a then Some (with_side i e true) else if b then Some (with_side i e false) else None)
    by_tests true b = refl
    by_tests false true = refl
    by_tests false false = refl

found_out : (v : Variables) (i : ℕ) (e : Equation) (z : ℤ) (found : Option Place) → IfSome found (λ l. l.position ≡ i)
    → option_map (λ l. l.below) found ≡ side_of v e z
    → option_map (λ l. record { position = l.position; equation = e; below = l.below }) found ≡ out_of_range v i e z
found_out v i e z None here is = ap (option_map (with_side i e)) is ∙ out_of_side v i e z
found_out v i e z (Some l) here is =
    ap (λ p. Some (with_side p e l.below)) here ∙ ap (option_map (with_side i e)) is ∙ out_of_side v i e z

-- one side more
pub leaves_by-more : (es : List Equation) (sides : List (Option Bool)) (i : ℕ) (best found next : Option Place) → i < length es
    → ((v : Variables) (zs : List ℤ) → AreSides v es zs sides
    → leaving_from v i (option_map (leaving_at es) best) (drop i es) (drop i zs) ≡ leaving_from v 0 None es zs)
    → IfSome found (λ l. l.position ≡ i) → option_map (λ l. l.below) found ≡ side_at sides i
    → option_map (leaving_at es) next ≡ lesser (option_map (leaving_at es) best) (option_map (leaving_at es) found)
    → (v : Variables) (zs : List ℤ) → AreSides v es zs sides
    → leaving_from v (i + 1) (option_map (leaving_at es) next) (drop (i + 1) es) (drop (i + 1) zs) ≡ leaving_from v 0 None es zs
leaves_by-more es sides i best found next inside now here is step =
    λ v zs are.
    leaving_from-more v es zs i (equation_at es i) (at zs i) best found next (leaving_from v 0 None es zs) inside (omega (arith, are.same_length, inside)) refl
    refl (now v zs are) here (found_out v i (equation_at es i) (at zs i) found here (is ∙ are.each i inside)) step

lesser_alone : (best : Option Leaving) → best ≡ lesser best None
lesser_alone None = refl
lesser_alone (Some l) = refl

-- a variable in its range does not leave
pub leaves_by-same : (es : List Equation) (sides : List (Option Bool)) (i : ℕ) (best : Option Place) → i < length es
    → ((v : Variables) (zs : List ℤ) → AreSides v es zs sides
    → leaving_from v i (option_map (leaving_at es) best) (drop i es) (drop i zs) ≡ leaving_from v 0 None es zs)
    → side_at sides i ≡ None
    → (v : Variables) (zs : List ℤ) → AreSides v es zs sides
    → leaving_from v (i + 1) (option_map (leaving_at es) best) (drop (i + 1) es) (drop (i + 1) zs) ≡ leaving_from v 0 None es zs
leaves_by-same es sides i best inside now none =
    leaves_by-more es sides i best None best inside now tt (sym none) (lesser_alone (option_map (leaving_at es) best))

-- no side is left
pub leaves_by-end : (es : List Equation) (sides : List (Option Bool)) (i : ℕ) (best : Option Place) → length es ≤ i
    → ((v : Variables) (zs : List ℤ) → AreSides v es zs sides
    → leaving_from v i (option_map (leaving_at es) best) (drop i es) (drop i zs) ≡ leaving_from v 0 None es zs)
    → LeavesBy es sides (option_map (leaving_at es) best)
leaves_by-end es sides i best past now =
    λ v zs are. sym (ap (λ ds. leaving_from v i (option_map (leaving_at es) best) ds (drop i zs)) (drop_all i es past)) ∙ now v zs are
