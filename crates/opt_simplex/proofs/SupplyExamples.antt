-- One supplier, one arc and one point, worked by hand: quantities are rations of 10 g, shortfall, and kilograms bought,
-- shipped and handed out.
use Rattle.std.proofs.Common.{◌≡◌, ℤ, List, [], ◌∷◌, pos, refl}
use Rattle.opt_system.specs.declared.rows.Row.{Row}
use Rattle.opt_system.specs.Systems.{System}
use Rattle.opt_frac.specs.Divisors.{gcd}
use Rattle.opt_frac.specs.Equations.{lowest}
use Rattle.opt_frac.specs.Elimination.{solution_for, elimination}
use Rattle.opt_simplex.specs.declared.end.LpEnd.TheVariants.{Optimal, Empty, Stopped}
use Rattle.opt_simplex.specs.declared.end.Why.TheVariants.{Pivots}
use Rattle.opt_simplex.specs.Pivot.{next_tableau}
use Rattle.opt_simplex.specs.Rule.{end_of}
use Rattle.opt_simplex.proofs.ExampleSystems.{system, least, equal, minus, multipliers}

-- the need of 210,000 a day, what is handed out of it from both sides, the supplier's and the point's balances, the arc
supply_rows : List Row
supply_rows =
    least (pos 210000) ((0, pos 3600) ∷ (1, pos 100) ∷ []) ∷
    least (pos 0) ((0, minus 300000) ∷ (4, pos 1000) ∷ []) ∷
    least (minus 999) ((0, pos 300000) ∷ (4, minus 1000) ∷ []) ∷
    equal (pos 0) ((2, pos 1) ∷ (3, minus 1) ∷ []) ∷
    equal (pos 0) ((3, pos 1) ∷ (4, minus 1) ∷ []) ∷
    least (minus 20000) ((3, minus 1) ∷ []) ∷
    []

-- with at most so many rations, and what these make in kilograms
supply : ℤ → ℤ → System
supply rations kilograms =
    system (pos 0 ∷ pos 0 ∷ pos 0 ∷ pos 0 ∷ pos 0 ∷ []) (rations ∷ pos 0 ∷ pos 20000 ∷ pos 20000 ∷ kilograms ∷ []) (pos 0 ∷ pos 0 ∷ pos 450 ∷ pos 50 ∷ pos 0 ∷ []) supply_rows

-- 175/3 rations of 10 g are 17,500 kg
optimal : end_of (supply (pos 60) (pos 18000)) (supply (pos 60) (pos 18000)).root 20000
    ≡ Optimal ((pos 175, pos 3) ∷ (pos 0, pos 1) ∷ (pos 17500, pos 1) ∷ (pos 17500, pos 1) ∷ (pos 17500, pos 1) ∷ []) (multipliers (pos 6) ((0, pos 250) ∷ (1, pos 3) ∷ (3, pos 2700) ∷ (4, pos 3000) ∷ [])) 4
unfolding supply supply_rows gcd lowest solution_for elimination next_tableau
optimal = refl

-- after three pivots the bound is 52,500,000 / 60
after_three : end_of (supply (pos 60) (pos 18000)) (supply (pos 60) (pos 18000)).root 3
    ≡ Stopped Pivots 3 (multipliers (pos 60) ((0, pos 250) ∷ (1, pos 3) ∷ (4, pos 3000) ∷ []))
unfolding supply supply_rows gcd lowest solution_for elimination next_tableau
after_three = refl

-- 50 rations do not meet the need
too_little : end_of (supply (pos 50) (pos 15000)) (supply (pos 50) (pos 15000)).root 20000 ≡ Empty (multipliers (pos 0) ((0, pos 1) ∷ [])) 1
unfolding supply supply_rows gcd lowest solution_for elimination next_tableau
too_little = refl
