use Rattle.std.proofs.Common.{◌<◌, ◌∷◌, [], length, arith}
use Rattle.opt_model.specs.declared.quantity.Quantity.TheVariants.{Ration}
use Rattle.opt_rows.specs.Parts.{handed_grams}
use Rattle.opt_rows.proofs.RowSteps.{number_terms}
use Rattle.opt_rows.proofs.ListedTerms.{term_added}
use Rattle.opt_rows.proofs.handout_rows.add_handed.Goals as goal

pub loop-basket-preserved : goal.loop-basket-preserved
loop-basket-preserved c =
    let t = c.args.tables.now in
    let spot = c.args.spot in
    let qs = c.args.layout.now.quantities in
    let b = c.loop-basket.basket in
    let within : b < length t.baskets = omega (arith, c.loop-basket-test.true, c.basket_count-basket-end.ensures) in
    number_terms qs _ _ _ (λ n. (Ration n spot.commodity spot.month, handed_grams t spot.place spot.commodity spot.month n) ∷ []) t.baskets _ within c.loop-basket.invariant
    (term_added qs _ _ c.handed_term.result (Ration b spot.commodity spot.month) (handed_grams t spot.place spot.commodity spot.month b)
    c.handed_term.ensures.quantity c.handed_term.ensures.coefficient c.in_ok-add.ensures)
