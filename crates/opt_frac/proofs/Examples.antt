-- Equations worked by hand, which the rule must give.
use Rattle.std.proofs.Common.{◌≡◌, ◌^◌, [], ◌∷◌, pos, negsuc, Some, None, refl}
use Rattle.std.specs.declared.cmp.Ordering.TheVariants.{Less}
use Rattle.opt_frac.specs.Divisors.{gcd}
use Rattle.opt_frac.specs.Equations.{Equation, lowest, comparison}
use Rattle.opt_frac.specs.Elimination.{solution_for, elimination}

-- 3·x5 = 2·x0 - 4·x1
given : Equation
given = record { basic = 5; lead = pos 3; terms = (0, pos 2) ∷ (1, negsuc 3) ∷ [] }

-- solved for x0: 2·x0 = 4·x1 + 3·x5
solved : Equation
solved = record { basic = 0; lead = pos 2; terms = (1, pos 4) ∷ (5, pos 3) ∷ [] }

turned_example : solution_for 0 given ≡ solved
unfolding solution_for given solved
turned_example = refl

-- put into 5·x6 = x0 + 7·x2: 10·x6 = 4·x1 + 14·x2 + 3·x5
eliminated_example : elimination solved (record { basic = 6; lead = pos 5; terms = (0, pos 1) ∷ (2, pos 7) ∷ [] }) ≡ Some (record { basic = 6; lead = pos 10; terms = (1, pos 4) ∷ (2, pos 14) ∷ (5, pos 3) ∷ [] })
unfolding elimination gcd lowest solved
eliminated_example = refl

-- 2 · 2^126 does not fit
wide_example : elimination solved (record { basic = 6; lead = pos (2 ^ 126); terms = (0, pos 1) ∷ [] }) ≡ None
unfolding elimination gcd lowest solved
wide_example = refl

compared_example : comparison (negsuc 0) (pos 2) (negsuc 0) (pos 3) ≡ Less
compared_example = refl

-- 4·x1 - 6·x2 = 10·x3 is 2·x1 - 3·x2 = 5·x3
lowest_example : lowest (record { basic = 3; lead = pos 10; terms = (1, pos 4) ∷ (2, negsuc 5) ∷ [] }) ≡ record { basic = 3; lead = pos 5; terms = (1, pos 2) ∷ (2, negsuc 2) ∷ [] }
unfolding lowest gcd
lowest_example = refl
