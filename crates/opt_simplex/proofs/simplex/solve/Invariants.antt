use Rattle.opt_simplex.specs.Variables.{variables_of}
use Rattle.std.proofs.Common.{◌≡◌, ◌≤◌, length}
use Rattle.opt_simplex.specs.declared.limits.TheConstants.{COUNT_LIMIT}
use Rattle.opt_simplex.specs.Tableau.{stored}
use Rattle.opt_simplex.specs.Columns.{AreColumns}
use Rattle.opt_simplex.specs.Values.{AreNoted}
use Rattle.opt_simplex.proofs.TurnSteps.{IsRunning}
use Rattle.opt_simplex.proofs.simplex.solve.Given as goal

abbrev pub invariant-loop-done : goal.invariant-loop-done
invariant-loop-done l =
    record {
      running : IsRunning l.system l.range l.pivots (variables_of l.system l.range) l.done l.tableau;
      stored : l.work.stored ≡ stored l.tableau;
      few : l.work.stored ≤ COUNT_LIMIT;
      noted : AreNoted (variables_of l.system l.range) l.tableau l.work.values;
      columns : AreColumns (length (variables_of l.system l.range).low) l.tableau.equations l.work.columns;
    }
