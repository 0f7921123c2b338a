use Rattle.std.proofs.Common.{get_or, arith, pos}
use Rattle.std.proofs.lemmas.List.{get_or_default}
use Rattle.std.proofs.lemmas.Result.{err_from_is_err_and}
use Rattle.opt_model.specs.declared.records.Need.{Need}
use Rattle.opt_rows.specs.Names.{nutrient_names_of}
use Rattle.opt_rows.proofs.Finding.{records_more, records_found, records_all}
use Rattle.opt_rows.proofs.diet_names.find_nutrient.Goals as goal

-- a need that stands for none
abbrev none : Need
none = record { basket = 0; nutrient = 0; required = pos 0; max_short = pos 0; weight = pos 0 }

pub returns-in_err-rest : goal.returns-in_err-rest
returns-in_err-rest c =
    let needs = c.needs-needs.result.now in
    let need : Need = get_or needs c.loop-d.d none in
    let p = err_from_is_err_and c.from_residual.result c.from_residual.ensures.1 in rw (p.1, p.2)
    (rw (← c.needs-needs.ensures)
    (records_found (λ _ x. nutrient_names_of c.args.tables.now x) needs c.loop-d.d c.args.i c.loop-d.rest c.in_err-rest.field-0.0 need c.loop-d-test.true
    (get_or_default needs c.loop-d.d none need c.loop-d-test.true) c.loop-d.invariant c.in_err-rest.ensures))

pub loop-d-preserved : goal.loop-d-preserved
loop-d-preserved c =
    let needs = c.needs-needs.result.now in
    let need : Need = get_or needs c.loop-d.d none in
    records_more (λ _ x. nutrient_names_of c.args.tables.now x) needs c.loop-d.d c.args.i c.loop-d.rest c.in_ok-rest.rest need c.loop-d-test.true
    (get_or_default needs c.loop-d.d none need c.loop-d-test.true) c.loop-d.invariant c.in_ok-rest.ensures

pub returns : goal.returns
returns c =
    let needs = c.needs-needs.result.now in
    rw (← c.needs-needs.ensures)
    (records_all (λ _ x. nutrient_names_of c.args.tables.now x) needs c.loop-d.d c.args.i c.loop-d.rest (omega (arith, c.loop-d-test.false, c.loop-d.auto.d-end)) c.loop-d.invariant)
