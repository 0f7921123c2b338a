use Rattle.std.proofs.Common.{◌≡◌, List, ap, sym, subst, ◌∙◌, arith}
use Rattle.std.proofs.lemmas.Int.{ints}
use Rattle.opt_sums.specs.Sums.{at}
use Rattle.opt_system.specs.Ranges.{Range}
use Rattle.opt_check.specs.declared.way.Turn.{Turn}
use Rattle.opt_check.specs.Way.{IsWayTo, CanSplit, after_split}
use Rattle.opt_check.proofs.WaySteps.{Entered, entered}
use Rattle.opt_check.proofs.walk.Walk.enter.Goals as goal

pub invariant_of-self : goal.invariant_of-self
invariant_of-self c =
    let e : c.push.new.self ≡ c.self.inside.way = c.in_err-push.ensures.err in
    subst (λ (w : List Turn). IsWayTo c.self.inside.over c.self.inside.range w) (sym e) c.self.invariant

enters_box : (c : goal.After-set_high) → Entered c.self.inside.over c.self.inside.range c.set_high.new.self c.self.inside.way c.push.new.self c.args.cut
enters_box c =
    entered c.self.inside.over c.self.inside.range c.set_high.new.self c.self.inside.way c.push.new.self c.args.cut _ _ c.set_high.ensures c.in_ok-push.ensures.ok (omega (arith, ints))
    (omega (arith, ints, ap (λ l. at l c.args.cut.quantity) c.high.ensures.value))
    (subst (λ (boxes : List Range). CanSplit boxes c.args.cut.quantity c.args.cut.at) (sym c.self.view_is) c.requires)
    c.self.invariant

pub invariant_of-self-2 : goal.invariant_of-self-2
invariant_of-self-2 c = (enters_box c).leads

pub returns-clause-split : goal.returns-clause-split
returns-clause-split c = (enters_box c).waits ∙ ap (after_split c.args.cut.quantity c.args.cut.at) c.self.view_is
