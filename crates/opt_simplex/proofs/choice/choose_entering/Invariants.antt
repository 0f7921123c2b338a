use Rattle.std.proofs.Common.{◌≡◌, None, drop, IfSome}
use Rattle.opt_simplex.specs.Choice.{entering_from}
use Rattle.opt_simplex.specs.Shape.{IsChoice}
use Rattle.opt_simplex.proofs.choice.choose_entering.Given as goal

abbrev pub invariant-loop-term : goal.invariant-loop-term
invariant-loop-term l =
    record {
      rest : entering_from l.variables l.at_high l.below l.cost l.best (drop l.term-index l.leaving.terms)
          ≡ entering_from l.variables l.at_high l.below l.cost None l.leaving.terms;
      choice : IfSome l.best IsChoice;
    }
