use Rattle.std.proofs.Common.{◌≡◌, ◌<◌, ℤ, List, None, length, drop, option_map, IfSome}
use Rattle.opt_simplex.specs.Variables.{Variables}
use Rattle.opt_simplex.specs.Choice.{leaving_from}
use Rattle.opt_simplex.specs.Values.{AreSides}
use Rattle.opt_simplex.specs.Outcomes.{leaving_at}
use Rattle.opt_simplex.proofs.choice.choose_leaving.Given as goal

abbrev pub invariant-loop-i : goal.invariant-loop-i
invariant-loop-i l =
    record {
      rest : (v : Variables) (zs : List ℤ) → AreSides v l.equations zs l.sides
          → leaving_from v l.i (option_map (leaving_at l.equations) l.best) (drop l.i l.equations) (drop l.i zs) ≡ leaving_from v 0 None l.equations zs;
      within : IfSome l.best (λ b. b.position < length l.equations);
    }
