use Rattle.std.proofs.Common.{◌+◌, ◌∷◌, ◌++◌, [], ℤ, ap, ◌∙◌}
use Rattle.opt_model.specs.declared.quantity.Quantity.{Quantity}
use Rattle.opt_model.specs.declared.quantity.Quantity.TheVariants.{Short}
use Rattle.opt_rows.specs.Gathering.{entries_of}
use Rattle.opt_rows.proofs.RowSteps.{month_terms, term_is}
use Rattle.opt_rows.proofs.goal_rows.add_lack.Goals as goal

pub loop-earlier-preserved : goal.loop-earlier-preserved
loop-earlier-preserved c =
    month_terms c.args.layout.now.quantities _ _ _ (λ m. (Short c.args.number m, c.args.need.now.weight) ∷ []) c.loop-earlier.earlier c.loop-earlier.invariant
    (c.in_ok-add.ensures
    ∙ ap (λ (d : Quantity × ℤ). c.loop-earlier.terms ++ entries_of c.args.layout.now.quantities (d ∷ []))
    (term_is c.lack_term.result (Short c.args.number (c.loop-earlier.earlier + 1)) c.args.need.now.weight c.lack_term.ensures.quantity c.lack_term.ensures.coefficient))
