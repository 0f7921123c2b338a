use Rattle.std.proofs.Common.{◌≡◌, ◌<◌, ℕ, All, Contains}
use Rattle.opt_simplex.proofs.values.all_positions.Given as goal

abbrev pub invariant-loop-i : goal.invariant-loop-i
invariant-loop-i l =
    record {
      inside : All (λ i. i < l.count) l.positions.items;
      all : (i : ℕ) → i < l.i → Contains l.positions.items i;
    }
