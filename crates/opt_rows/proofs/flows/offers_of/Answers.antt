use Rattle.std.proofs.Common.{◌≤◌, ◌==◌, length, refl, arith}
use Rattle.opt_rows.proofs.PileSteps.{piles_all, pile_keyed}
use Rattle.opt_rows.proofs.RowSteps.{read_at}
use Rattle.opt_rows.proofs.flows.offers_of.Goals as goal

pub loop-sale-preserved : goal.loop-sale-preserved
loop-sale-preserved c =
    let sales = c.args.sales.now in
    pile_keyed (λ r. r.commodity) (λ _ r. r.offer) (length c.args.tables.now.commodities) sales c.loop-sale.sale-index _ _ _ c.loop-sale-test.true
    (read_at sales sales c.loop-sale.sale-index _ refl c.loop-sale-test.true) c.in_ok-add.ensures c.loop-sale.invariant

pub returns : goal.returns
returns c =
    let all : length c.args.sales.now ≤ c.loop-sale.sale-index = omega (arith, c.loop-sale-test.false) in
    piles_all (λ k r. r.commodity == k) (λ _ r. r.offer) (length c.args.tables.now.commodities) c.args.sales.now c.loop-sale.sale-index _ all c.loop-sale.invariant
