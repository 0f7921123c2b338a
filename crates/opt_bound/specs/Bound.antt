-- The lower bound that multipliers prove on a box.
use Rattle.std.specs.Prelude.{ℕ, List, [], ◌∷◌, length, ℤ, pos, negsuc, ◌+ℤ◌, ◌-ℤ◌, ◌*ℤ◌, int_lt, if◌then◌else◌}
use Rattle.std.specs.Int.{int_min}
use Rattle.opt_sums.specs.Sums.{at, sum_to}
use Rattle.opt_sums.specs.Entries.{coef, dot, weighted_sum}
use Rattle.opt_system.specs.Ranges.{Range}
use Rattle.opt_system.specs.Systems.{System, row_at, value}
use Rattle.opt_bound.specs.Multipliers.{Multipliers}

-- what is left of the cost of a unit of quantity j when the weighted rows are taken off
abbrev pub reduced_cost_of : System → Multipliers → ℕ → ℤ
reduced_cost_of p m j = (m.q *ℤ at p.cost j) -ℤ weighted_sum m.entries (λ i. coef (row_at p.rows i).terms j)

-- the weighted sum of the right-hand sides
abbrev pub right_hand_side_of : System → Multipliers → ℤ
right_hand_side_of p m = weighted_sum m.entries (λ i. (row_at p.rows i).right_hand_side)

-- the least that quantity j can give in the box
abbrev pub least_of : System → Range → Multipliers → ℕ → ℤ
least_of p box m j = int_min (reduced_cost_of p m j *ℤ at box.low j) (reduced_cost_of p m j *ℤ at box.high j)

-- the bound on q times the value of each point of the box that meets the rows
abbrev pub bound_of : System → Range → Multipliers → ℤ
bound_of p box m = right_hand_side_of p m +ℤ sum_to (length p.cost) (least_of p box m)

-- the bound on a box of the point x alone: the weighted right-hand sides, and q times the value less the weighted rows
abbrev pub point_bound_of : System → Multipliers → List ℤ → ℤ
point_bound_of p m x =
    right_hand_side_of p m +ℤ ((m.q *ℤ value p x) -ℤ weighted_sum m.entries (λ i. dot (row_at p.rows i).terms x))

-- once up or down, so that the row's sum and its right-hand side are apart by more than 0
abbrev pub unit_of : ℤ → ℤ → ℤ
unit_of left right = if int_lt left right then pos 1 else negsuc 0

-- row i alone, once, against the side on which the point x breaks it
abbrev pub unit_multipliers : System → List ℤ → ℕ → Multipliers
unit_multipliers p x i = record {
  q = pos 0;
  entries = (i, unit_of (dot (row_at p.rows i).terms x) (row_at p.rows i).right_hand_side) ∷ [];
}

-- the objective alone, once
abbrev pub trivial_multipliers : Multipliers
trivial_multipliers = record { q = pos 1; entries = [] }
