use Rattle.std.proofs.Common.{◌≡◌, ◌<◌, ◌≤◌, ◌∷◌, [], ◌==◌, ◌&&◌, length, ap, ap₂, ◌∙◌, arith}
use Rattle.opt_model.specs.Quantities.{list_if}
use Rattle.opt_rows.specs.Listed.{arrives_in_plan, way_of}
use Rattle.opt_rows.specs.Piles.{pile_with}
use Rattle.opt_rows.proofs.PileSteps.{piles_all, pile_wanted}
use Rattle.opt_rows.proofs.flows.arrivals_of.Goals as goal

pub loop-number-preserved : goal.loop-number-preserved
loop-number-preserved c =
    let t = c.args.tables.now in
    let e = c.arcs-arc-items.ensures in
    let within : c.loop-number.number < length t.arcs = omega (arith, ap length e, c.loop-number-test.true) in
    let r = c.arc-item.result in
    pile_wanted (λ x. x.to_place) (λ x. arrives_in_plan t x) (λ n x. way_of n x) (length t.places) t.arcs c.loop-number.number r c.loop-number.arrivals _ within (rw e at c.arc-item.is)
    (c.in_ok-add_if.ensures ∙ ap₂ (λ b x. pile_with c.loop-number.arrivals r.to_place (list_if b (x ∷ []))) c.arrives_in_plan.ensures c.way_of-way.ensures) c.loop-number.invariant

pub returns : goal.returns
returns c =
    let t = c.args.tables.now in
    let all : length t.arcs ≤ c.loop-number.number = omega (arith, ap length c.arcs-arc-items.ensures, c.loop-number-test.false) in
    piles_all (λ p arc. (arc.to_place == p) && arrives_in_plan t arc) (λ n arc. way_of n arc) (length t.places) t.arcs c.loop-number.number _ all c.loop-number.invariant
