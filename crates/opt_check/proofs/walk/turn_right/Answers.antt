use Rattle.std.proofs.Common.{◌≡◌, List, ◌∷◌, drop, Some, slice_get, ap, subst, arith}
use Rattle.std.proofs.lemmas.Int.{ints}
use Rattle.opt_sums.specs.Sums.{at}
use Rattle.opt_check.specs.declared.way.Turn.{Turn}
use Rattle.opt_check.specs.Way.{IsWay}
use Rattle.opt_check.specs.declared.way.Turn.TheVariants.{Left}
use Rattle.opt_check.proofs.WaySteps.{Turned, turned, first_and_rest}
use Rattle.opt_check.proofs.walk.turn_right.Goals as goal

turns : (c : goal.After-replace_last) → Turned c.args.range.now c.set_low.new.self c.args.way.now c.replace_last.new.self
turns c =
    let last : slice_get c.args.way.now 0 ≡ Some (Left c.in-Some-Left.cut c.in-Some-Left.high) = cc in
    let way : IsWay c.args.range.now (Left c.in-Some-Left.cut c.in-Some-Left.high ∷ drop 1 c.args.way.now) =
    subst (λ (w : List Turn). IsWay c.args.range.now w) (first_and_rest c.args.way.now _ last) c.requires.leads
    in
    turned c.args.range.now c.set_high.new.self c.set_low.new.self c.args.way.now c.replace_last.new.self c.in-Some-Left.cut c.in-Some-Left.high _ _ _ last c.set_high.ensures c.set_low.ensures c.replace_last.ensures (omega (arith, ints)) (omega (arith, ints, way.0.1, way.0.2, c.low.ensures.ordered.from_zero c.in-Some-Left.cut.quantity way.0.0))
    (omega (arith, ints, ap (λ l. at l c.in-Some-Left.cut.quantity) c.low.ensures.value))
    c.low.ensures.ordered c.requires.leads

pub returns-clause-leads : goal.returns-clause-leads
returns-clause-leads c = (turns c).leads

pub returns-clause-waiting : goal.returns-clause-waiting
returns-clause-waiting c = (turns c).waits
