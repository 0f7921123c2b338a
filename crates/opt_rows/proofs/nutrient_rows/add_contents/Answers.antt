use Rattle.std.proofs.Common.{◌∷◌, [], refl}
use Rattle.opt_model.specs.declared.quantity.Quantity.TheVariants.{Ration}
use Rattle.opt_rows.proofs.RowSteps.{read_at}
use Rattle.opt_rows.proofs.ListedTerms.{term_added, listed_terms}
use Rattle.opt_rows.proofs.nutrient_rows.add_contents.Goals as goal

pub loop-content-preserved : goal.loop-content-preserved
loop-content-preserved c =
    let qs = c.args.layout.now.quantities in
    listed_terms qs _ _ _ (λ r. (Ration c.args.basket r.commodity c.args.month, r.units) ∷ []) c.args.contents.now c.loop-content.content-index _ c.loop-content-test.true
    (read_at c.args.contents.now c.args.contents.now c.loop-content.content-index _ refl c.loop-content-test.true) c.loop-content.invariant
    (term_added qs _ _ c.content_term.result _ _ c.content_term.ensures.quantity c.content_term.ensures.coefficient c.in_ok-add.ensures)
