use Rattle.std.proofs.Common.{◌≡◌, arith}
use Rattle.std.proofs.lemmas.Grind.{common_steps}
use Rattle.opt_system.specs.Systems.{IsLimited, row_at}
use Rattle.opt_system.proofs.system.System.terms.Goals as goal

limited : (c : goal.After-as_slice) → IsLimited c.args.self.now
limited c = rw (← c.self.view_is) c.self.invariant.limited

value : (c : goal.After-as_slice) → c.as_slice.result.now ≡ (row_at c.args.self.now.rows c.args.i).terms
value c = grind (arith, common_steps)

pub returns-clause-rising : goal.returns-clause-rising
returns-clause-rising c = rw (value c) ((limited c).even c.args.i _ c.requires).rising

pub returns-clause-no_zero : goal.returns-clause-no_zero
returns-clause-no_zero c = rw (value c) ((limited c).even c.args.i _ c.requires).no_zero
