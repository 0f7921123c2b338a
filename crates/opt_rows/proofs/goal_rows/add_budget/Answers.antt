use Rattle.opt_model.specs.Rows.{cost_terms}
use Rattle.opt_model.specs.declared.quantity.RowName.TheVariants as row
use Rattle.opt_rows.proofs.RowSteps.{limit_added}
use Rattle.opt_rows.proofs.ShortSums.{short_first, cost_terms_small}
use Rattle.opt_rows.proofs.goal_rows.add_budget.Goals as goal

pub returns : goal.returns
returns c =
    limit_added c.args.layout.now.quantities row.Budget (cost_terms c.args.tables.now) c.args.limit.now _ _ _ _
    c.new-terms.ensures c.in_ok-add_costs.ensures c.in_ok-push_at_most.ensures

pub push_at_most-requires-clause-sums : goal.push_at_most-requires-clause-sums
push_at_most-requires-clause-sums c =
    short_first c.args.tables.now c.args.layout.now (cost_terms c.args.tables.now) _ _ c.settings-settings.ensures.model c.requires.layout
    (cost_terms_small c.args.tables.now c.settings-settings.ensures.model) c.new-terms.ensures c.in_ok-add_costs.ensures
