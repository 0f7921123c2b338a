use Rattle.std.proofs.Common.{◌∷◌, [], refl}
use Rattle.opt_model.specs.declared.quantity.Quantity.TheVariants.{Ration}
use Rattle.opt_rows.proofs.RowSteps.{read_at}
use Rattle.opt_rows.proofs.ListedTerms.{term_added, listed_terms}
use Rattle.opt_rows.proofs.group_rows.add_rations.Goals as goal

pub loop-member-preserved : goal.loop-member-preserved
loop-member-preserved c =
    listed_terms c.args.layout.now.quantities _ _ _ (λ r. (Ration c.args.basket r.commodity c.args.month, r.step_g) ∷ []) c.args.members.now c.loop-member.member-index _
    c.loop-member-test.true (read_at c.args.members.now c.args.members.now c.loop-member.member-index _ refl c.loop-member-test.true) c.loop-member.invariant
    (term_added c.args.layout.now.quantities _ _ c.ration_term.result _ _ c.ration_term.ensures.quantity c.ration_term.ensures.coefficient c.in_ok-add.ensures)
