-- What is kept of a tableau's values from turn to turn.
use Rattle.std.specs.Prelude.{◌≡◌, ℕ, ◌<◌, List, [], Bool, true, false, length, Contains, ℤ, pos, ◌*ℤ◌, int_lt, if◌then◌else◌, Option, Some, None, slice_index_or}
use Rattle.opt_sums.specs.Sums.{at}
use Rattle.opt_frac.specs.Equations.{Equation}
use Rattle.opt_simplex.specs.Variables.{Variables, low_of, high_of, resting}
use Rattle.opt_simplex.specs.Tableau.{Tableau, equation_at}
use Rattle.opt_simplex.specs.Choice.{Leaving, sum_from, values, is_above, leaving_from}

-- whether a value does not fit; and else, by position, lead times the value of each equation's variable, and which end of
-- its range that variable is past
pub record Values : Type 0 where
  pub wide : Bool
  pub numbers : List ℤ
  pub sides : List (Option Bool)

-- whether the value of the equation's variable is below its low, where it is out of its range
abbrev pub side_of : Variables → Equation → ℤ → Option Bool
side_of v e value =
    if int_lt value (low_of v e.basic *ℤ e.lead)
    then Some true
    else if is_above value e.lead (high_of v e.basic)
    then Some false
    else None

-- the side at position i, or none past the end
abbrev pub side_at : List (Option Bool) → ℕ → Option Bool
side_at sides i = slice_index_or sides i None

-- the number at the position is the value of its equation, and the side is the one that it is on
pub record IsNoted (v : Variables) (t : Tableau) (k : Values) (i : ℕ) : Type 0 where
  pub number : sum_from (resting v t.at_high) (pos 0) (equation_at t.equations i).terms ≡ Some (at k.numbers i)
  pub side : side_at k.sides i ≡ side_of v (equation_at t.equations i) (at k.numbers i)

-- the values of the tableau are noted but for those at these positions
pub record AreNotedBut (v : Variables) (t : Tableau) (k : Values) (others : List ℕ) : Type 0 where
  pub numbers_each : length k.numbers ≡ length t.equations
  pub sides_each : length k.sides ≡ length t.equations
  pub wide : k.wide ≡ true → values (resting v t.at_high) t.equations ≡ None
  pub noted : k.wide ≡ false → (i : ℕ) → i < length t.equations → (Contains others i → ⊥) → IsNoted v t k i

-- all values of the tableau are noted
abbrev pub AreNoted : Variables → Tableau → Values → Type 0
AreNoted v t k = AreNotedBut v t k []

-- each side is that of its equation's value
pub record AreSides (v : Variables) (es : List Equation) (zs : List ℤ) (sides : List (Option Bool)) : Type 0 where
  pub same_length : length zs ≡ length es
  pub each : (i : ℕ) → i < length es → side_at sides i ≡ side_of v (equation_at es i) (at zs i)

-- this variable leaves, whichever values lie on these sides
abbrev pub LeavesBy : List Equation → List (Option Bool) → Option Leaving → Type 0
LeavesBy es sides found = (v : Variables) (zs : List ℤ) → AreSides v es zs sides → found ≡ leaving_from v 0 None es zs
