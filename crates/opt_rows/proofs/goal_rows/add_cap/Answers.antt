use Rattle.std.proofs.Common.{◌≡◌, ◌∷◌, ◌++◌, [], List, neg_ℤ, ap, ◌∙◌}
use Rattle.opt_model.specs.Quantities.{quantities}
use Rattle.opt_model.specs.Rows.{lack_terms, negation, coefficients_by_number}
use Rattle.opt_model.specs.declared.quantity.Quantity.{Quantity}
use Rattle.opt_system.specs.declared.rows.RowKind.TheVariants.{Ge}
use Rattle.opt_rows.specs.Gathering.{entries_of}
use Rattle.opt_rows.proofs.ShortSums.{short_first, lack_terms_small}
use Rattle.opt_rows.proofs.goal_rows.add_cap.Goals as goal

pub returns : goal.returns
returns c =
    let same : c.args.layout.now.quantities ≡ quantities c.args.tables.now = ap (λ l. l.quantities) c.requires.layout.same in
    c.in_ok-push_at_most.ensures (lack_terms c.args.tables.now)
    (c.in_ok-add_lacks.ensures ∙ ap (λ e. e ++ entries_of c.args.layout.now.quantities (lack_terms c.args.tables.now)) c.new-terms.ensures)
    ∙ ap (λ (qs : List Quantity). c.args.rows.now ++ record { kind = Ge; right_hand_side = neg_ℤ c.args.cap.now; terms = coefficients_by_number qs (negation (lack_terms c.args.tables.now)) } ∷ []) same

pub push_at_most-requires-clause-sums : goal.push_at_most-requires-clause-sums
push_at_most-requires-clause-sums c =
    short_first c.args.tables.now c.args.layout.now (lack_terms c.args.tables.now) _ _ c.settings-settings.ensures.model c.requires.layout
    (lack_terms_small c.args.tables.now c.settings-settings.ensures.model) c.new-terms.ensures c.in_ok-add_lacks.ensures
