-- What admissible multipliers show of a box is true of it.
use Rattle.std.proofs.Common.{zero, suc, ℤ, pos, negsuc, ◌≤ℤ◌, refl, arith}
use Rattle.std.proofs.lemmas.Int.{ints}
use Rattle.opt_system.specs.Ranges.{Range}
use Rattle.opt_system.specs.Systems.{System, IsLimited}
use Rattle.opt_bound.specs.Multipliers.{Multipliers, IsAdmissible}
use Rattle.opt_bound.specs.Bound.{bound_of}
use Rattle.opt_bound.specs.Verdict.{leaf_of, IsLeastReached, IsTrueOf}
use Rattle.opt_bound.proofs.Duality.{weak_duality}
use Rattle.opt_bound.proofs.LeafLemmas.{least_reached, leaf_true}
use Rattle.opt_tree.specs.Shown.{leaf_at}

-- the leaf is the least value that reaches its bound
leaf_of-least : (b q : ℤ) → pos 0 ≤ℤ q → IsLeastReached b q (leaf_of b q)
leaf_of-least (pos (suc n)) (pos zero) h = λ w reaches. absurd (omega (arith, ints, reaches.reached))
leaf_of-least (pos (suc n)) (pos (suc d)) h = least_reached (pos (suc n)) (pos (suc d)) _ (omega (arith, ints)) (omega (arith, ints)) refl
leaf_of-least (pos (suc n)) (negsuc d) h = absurd (omega (arith, ints))
leaf_of-least (pos zero) q h = (record { from_zero = omega (arith, ints); reached = omega (arith, ints) }, λ w reaches. reaches.from_zero)
leaf_of-least (negsuc n) q h = (record { from_zero = omega (arith, ints); reached = omega (arith, ints) }, λ w reaches. reaches.from_zero)

pub leaf_at-true : (s : System) (box : Range) (m : Multipliers) → IsLimited s → pos 0 ≤ℤ m.q → IsAdmissible s m → IsTrueOf s box (leaf_at s box m)
leaf_at-true s box m limited from admissible =
    leaf_true s box (bound_of s box m) m.q (leaf_at s box m) limited (leaf_of-least (bound_of s box m) m.q from)
    (λ x meets inside. weak_duality s box m x limited.small.cost_each admissible meets inside)
