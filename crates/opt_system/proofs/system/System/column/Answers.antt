use Rattle.std.proofs.Common.{◌≡◌, arith}
use Rattle.std.proofs.lemmas.Grind.{common_steps}
use Rattle.opt_system.specs.Rows.{column_of}
use Rattle.opt_system.specs.Systems.{IsLimited}
use Rattle.opt_system.proofs.ColumnFacts.{IsRising-column_of, HasNoZero-column_of, column_small}
use Rattle.opt_system.proofs.system.System.column.Goals as goal

limited : (c : goal.After-column) → IsLimited c.args.self.now
limited c = rw (← c.self.view_is) c.self.invariant.limited

value : (c : goal.After-column) → c.column.result.now ≡ column_of c.args.self.now.rows c.args.j
value c = grind (arith, common_steps)

pub returns-clause-rising : goal.returns-clause-rising
returns-clause-rising c = rw (value c) (IsRising-column_of c.args.self.now.rows c.args.j (limited c).even)

pub returns-clause-no_zero : goal.returns-clause-no_zero
returns-clause-no_zero c = rw (value c) (HasNoZero-column_of c.args.self.now.rows c.args.j (limited c).even)

pub returns-clause-small : goal.returns-clause-small
returns-clause-small c = rw (value c) (column_small c.args.self.now c.args.j (limited c))
