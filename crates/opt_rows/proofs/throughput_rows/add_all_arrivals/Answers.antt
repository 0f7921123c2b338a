use Rattle.std.proofs.Common.{◌≡◌, ℕ, ◌<◌, ◌∷◌, [], length, List, ℤ, pos, ap, ◌∙◌, arith}
use Rattle.std.specs.Prelude.{◌-◌, nat_lt}
use Rattle.std.specs.List.{flat_map}
use Rattle.opt_model.specs.Quantities.{list_if}
use Rattle.opt_model.specs.Rows.{Terms, arrived_terms}
use Rattle.opt_model.specs.declared.quantity.Quantity.TheVariants.{Ship}
use Rattle.opt_rows.specs.declared.flows.Way.{Way}
use Rattle.opt_rows.specs.Gathering.{entries_of}
use Rattle.opt_rows.proofs.ListedTerms.{same_entries, arrived_listed}
use Rattle.opt_rows.proofs.RowSteps.{number_terms}
use Rattle.opt_rows.proofs.throughput_rows.add_all_arrivals.Goals as goal

pub loop-commodity-preserved : goal.loop-commodity-preserved
loop-commodity-preserved c =
    let t = c.args.tables.now in
    let layout = c.args.layout.now in
    let p = c.args.intake.now.place in
    let m = c.args.month in
    let n = c.loop-commodity.commodity in
    let qs = layout.quantities in
    let entries : Terms → List (ℕ × ℤ) = entries_of qs in
    let come : Way → Terms = λ way. list_if (nat_lt way.lead m) ((Ship way.arc n (m - way.lead), pos 1) ∷ []) in
    let arrived : entries (flat_map come c.args.intake.now.arrivals.now) ≡ entries (arrived_terms t p n m) =
    ap (λ xs. entries (flat_map come xs)) c.requires.arrivals ∙ arrived_listed t layout c.requires.layout p n m in
    let lt : n < length t.commodities = omega (arith, c.loop-commodity-test.true, c.commodity_count-commodity-end.ensures) in
    number_terms qs _ _ _ (λ k. arrived_terms t p k m) t.commodities _ lt c.loop-commodity.invariant
    (same_entries qs (flat_map come c.args.intake.now.arrivals.now) (arrived_terms t p n m) _ _ arrived c.in_ok-add_arrivals.ensures)
