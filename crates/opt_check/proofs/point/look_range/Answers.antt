use Rattle.std.proofs.Common.{◌≡◌, List, ℤ, length, ap, ◌∙◌, sym, subst, arith}
use Rattle.opt_system.specs.Ranges.{Range, IsWithin}
use Rattle.opt_tree.proofs.PointTrue.{length-point_of}
use Rattle.opt_check.proofs.point.look_range.Goals as goal

each : (c : goal.After-deref) → length c.deref.result.now ≡ length c.args.system.now.cost
each c =
    ap length (c.deref.ensures.value ∙ c.in_ok-x.ensures)
    ∙ length-point_of c.quantities-quantities.result c.args.entries.now
    ∙ c.quantities-quantities.ensures.count

pub first_outside-requires-clause-each : goal.first_outside-requires-clause-each
first_outside-requires-clause-each c = each c ∙ c.quantities-quantities.ensures.limited.small.cost_each ∙ sym (ap (λ (r : Range). length r.low) c.root.ensures)

pub first_outside-requires-clause-few : goal.first_outside-requires-clause-few
first_outside-requires-clause-few c = omega (arith, each c, c.quantities-quantities.ensures.count)

pub returns-clause-within : goal.returns-clause-within
returns-clause-within c =
    let inside : IsWithin c.root.result.now c.deref.result.now = c.in_default.ensures.within in
    subst (λ (r : Range). IsWithin r c.in_ok-x.x.items) c.root.ensures (subst (λ (x : List ℤ). IsWithin c.root.result.now x) c.deref.ensures.value inside)
