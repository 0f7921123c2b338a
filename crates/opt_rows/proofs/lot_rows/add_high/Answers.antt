use Rattle.std.proofs.Common.{◌≡◌, ◌^◌, ◌≤◌, ℤ, pos, neg_ℤ, unsigned_abs, arith}
use Rattle.std.proofs.lemmas.Int.{ints}
use Rattle.opt_tables.specs.Facts.{IsKilograms}
use Rattle.opt_model.specs.declared.quantity.Quantity.TheVariants.{Buy, Order}
use Rattle.opt_model.specs.declared.quantity.RowName.TheVariants as row
use Rattle.opt_rows.proofs.RowSteps.{pair_added}
use Rattle.opt_rows.proofs.ShortSums.{pair_short}
use Rattle.opt_rows.proofs.lot_rows.add_high.Goals as goal

pub returns : goal.returns
returns c =
    pair_added c.args.layout.now.quantities (row.LotHigh c.args.number c.args.month) (Buy c.args.number c.args.month, neg_ℤ (pos 1)) c.most_term.result (Order c.args.number c.args.month) (c.args.offer.now.max_kg) (pos 0) _ _ _ _ _
    c.new-terms.ensures c.in_ok-add.ensures c.in_ok-add-2.ensures c.most_term.ensures.quantity c.most_term.ensures.coefficient c.in_ok-push_at_least.ensures

pub push_at_least-requires : goal.push_at_least-requires
push_at_least-requires c =
    record {
      sums = pair_short c.args.layout.now.quantities (Buy c.args.number c.args.month, neg_ℤ (pos 1)) c.most_term.result _ _ _ c.new-terms.ensures c.in_ok-add.ensures c.in_ok-add-2.ensures
          (omega arith) (size c.args.offer.now.max_kg c.most_term.result.1 c.requires c.most_term.ensures.coefficient);
    }
  where
    size : (z y : ℤ) → IsKilograms z → y ≡ z → unsigned_abs y ≤ 10 ^ 9
    size z y h e = omega (arith, ints, h.above, h.below, e)
