use Rattle.opt_model.specs.Quantities.{over}
use Rattle.opt_model.specs.Rows.{arrived_terms}
use Rattle.opt_model.specs.declared.quantity.RowName.TheVariants as row
use Rattle.opt_rows.proofs.RowSteps.{limit_added}
use Rattle.opt_rows.proofs.ShortSums.{short_first, throughput_terms_small}
use Rattle.opt_rows.proofs.throughput_rows.add_row.Goals as goal

pub returns : goal.returns
returns c =
    limit_added c.args.layout.now.quantities (row.Throughput c.args.intake.now.place c.args.month) (over c.args.tables.now.commodities λ n _. arrived_terms c.args.tables.now c.args.intake.now.place n c.args.month) c.args.intake.now.throughput _ _ _ _
    c.new-terms.ensures c.in_ok-add_all_arrivals.ensures c.in_ok-push_at_most.ensures

pub push_at_most-requires-clause-sums : goal.push_at_most-requires-clause-sums
push_at_most-requires-clause-sums c =
    short_first c.args.tables.now c.args.layout.now (over c.args.tables.now.commodities λ n _. arrived_terms c.args.tables.now c.args.intake.now.place n c.args.month) _ _
    c.settings-settings.ensures.model c.requires.layout (throughput_terms_small c.args.tables.now c.args.intake.now.place c.args.month) c.new-terms.ensures c.in_ok-add_all_arrivals.ensures
