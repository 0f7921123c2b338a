use Rattle.std.proofs.Common.{◌∷◌, [], pos}
use Rattle.opt_model.specs.Quantities.{over}
use Rattle.opt_model.specs.declared.quantity.Quantity.TheVariants.{Keep}
use Rattle.opt_model.specs.declared.quantity.RowName.TheVariants as row
use Rattle.opt_rows.proofs.RowSteps.{limit_added}
use Rattle.opt_rows.proofs.ShortSums.{short_first, storage_terms_small}
use Rattle.opt_rows.proofs.storage_rows.add_row.Goals as goal

pub returns : goal.returns
returns c =
    limit_added c.args.layout.now.quantities (row.Storage c.args.number c.args.month) (over c.args.tables.now.commodities λ n _. (Keep c.args.number n c.args.month, pos 1) ∷ []) c.args.place.now.storage _ _ _ _
    c.new-terms.ensures c.in_ok-add_kept.ensures c.in_ok-push_at_most.ensures

pub push_at_most-requires-clause-sums : goal.push_at_most-requires-clause-sums
push_at_most-requires-clause-sums c =
    short_first c.args.tables.now c.args.layout.now (over c.args.tables.now.commodities λ n _. (Keep c.args.number n c.args.month, pos 1) ∷ []) _ _
    c.settings-settings.ensures.model c.requires.layout (storage_terms_small c.args.tables.now c.args.number c.args.month) c.new-terms.ensures c.in_ok-add_kept.ensures
