use Rattle.std.proofs.Common.{◌≡◌, ◌≤◌, ◌+◌, drop, length, sum_by}
use Rattle.opt_simplex.specs.Tableau.{equation_at}
use Rattle.opt_simplex.specs.declared.limits.TheConstants.{COUNT_LIMIT}
use Rattle.opt_simplex.specs.Columns.{AreColumns}
use Rattle.opt_simplex.proofs.SweepSteps.{IsBetween}
use Rattle.opt_simplex.proofs.pivot.sweep.Given as goal

abbrev pub invariant-loop-place : goal.invariant-loop-place
invariant-loop-place l =
    record {
      sweeping : IsBetween l.turned l.position l.initial.equations.items l.equations.items l.first l.stored (drop l.place-index l.listed);
      few : l.stored ≤ COUNT_LIMIT;
      same_length : length l.equations.items ≡ length l.initial.equations.items;
      at_hand : equation_at l.equations.items l.position ≡ equation_at l.initial.equations.items l.position;
      counted : l.stored + sum_by (λ e. length e.terms) l.initial.equations.items ≡ l.first + sum_by (λ e. length e.terms) l.equations.items;
      columns : AreColumns (length l.initial.columns) l.equations.items l.columns;
    }
