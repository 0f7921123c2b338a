use Rattle.std.proofs.Common.{◌≡◌, drop, pos}
use Rattle.std.specs.Prelude.{option_and_then}
use Rattle.opt_simplex.specs.Variables.{resting}
use Rattle.opt_simplex.specs.Choice.{sum_from}
use Rattle.opt_simplex.proofs.values.value.Given as goal

abbrev pub invariant-loop-term : goal.invariant-loop-term
invariant-loop-term l =
    option_and_then (λ z. sum_from (resting l.variables l.at_high) z (drop l.term-index l.terms)) l.total
    ≡ sum_from (resting l.variables l.at_high) (pos 0) l.terms
