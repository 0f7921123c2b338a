use Rattle.std.proofs.Common.{◌≡◌, ◌<◌, ◌≤◌, ◌∷◌, [], ◌==◌, ◌&&◌, length, ap, ap₂, ◌∙◌, arith}
use Rattle.opt_model.specs.Quantities.{list_if}
use Rattle.opt_rows.specs.Listed.{begins_in_plan, sale_of}
use Rattle.opt_rows.specs.Piles.{pile_with}
use Rattle.opt_rows.proofs.PileSteps.{piles_all, pile_wanted}
use Rattle.opt_rows.proofs.flows.sales_of.Goals as goal

pub loop-number-preserved : goal.loop-number-preserved
loop-number-preserved c =
    let t = c.args.tables.now in
    let e = c.offers-offer-items.ensures in
    let within : c.loop-number.number < length t.offers = omega (arith, ap length e, c.loop-number-test.true) in
    let r = c.offer-item.result in
    pile_wanted (λ x. x.place) (λ x. begins_in_plan t x) (λ n x. sale_of n x) (length t.places) t.offers c.loop-number.number r c.loop-number.sales _ within (rw e at c.offer-item.is)
    (c.in_ok-add_if.ensures ∙ ap₂ (λ b x. pile_with c.loop-number.sales r.place (list_if b (x ∷ []))) c.begins_in_plan.ensures c.sale_of-sale.ensures) c.loop-number.invariant

pub returns : goal.returns
returns c =
    let t = c.args.tables.now in
    let all : length t.offers ≤ c.loop-number.number = omega (arith, ap length c.offers-offer-items.ensures, c.loop-number-test.false) in
    piles_all (λ p offer. (offer.place == p) && begins_in_plan t offer) (λ n offer. sale_of n offer) (length t.places) t.offers c.loop-number.number _ all c.loop-number.invariant
