use Rattle.std.proofs.Common.{◌≡◌, ◌-ℤ◌, ◌≤ℤ◌, ◌<ℤ◌, FitsSigned, arith}
use Rattle.std.proofs.lemmas.Int.{ints, to_z-of_z}
use mir.Syntax.{w128}
use Rattle.opt_search.proofs.ClosingLemmas.{unreached_none, unreached_some}
use Rattle.opt_search.proofs.state.State.close_reached.Goals as goal

pub returns-then-self-reached-clause-kept : goal.returns-then-self-reached-clause-kept
returns-then-self-reached-clause-kept c =
    let reached : (c.args.value -ℤ c.args.task.now.gap) ≤ℤ c.args.self.now.root_bound = omega (arith, ints, c.if-self-reached.true) in
    unreached_none c.args.task.now.gap c.args.self.now.root_bound c.args.value c.args.self.now.open_leaves c.new.result c.new.ensures reached

pub returns-else-self-reached-clause-kept : goal.returns-else-self-reached-clause-kept
returns-else-self-reached-clause-kept c =
    let unreached : c.args.self.now.root_bound <ℤ (c.args.value -ℤ c.args.task.now.gap) = omega (arith, ints, c.if-self-reached.false) in
    let f1 : FitsSigned w128 c.args.value = c.ranges.value in
    let f2 : FitsSigned w128 c.from.result = record { sfits = c.from.type_inv } in
    let g : c.from.result ≡ c.args.task.now.gap = omega (arith, ints) in
    let f3 : FitsSigned w128 (c.args.value -ℤ c.from.result) = omega (arith, ints) in
    unreached_some c.args.task.now.gap c.args.self.now.root_bound c.args.value c.args.self.now.open_leaves c.keep_below.new.self unreached
    (rw (← g) (simp to_z-of_z at c.keep_below.ensures))
