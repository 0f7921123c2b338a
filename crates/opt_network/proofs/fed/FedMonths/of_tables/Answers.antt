use Rattle.std.proofs.Common.{◌≤◌, length, ap, ◌∙◌, arith}
use Rattle.std.specs.List.{list_any}
use Rattle.std.proofs.lemmas.List.{take_all}
use Rattle.opt_model.specs.declared.limits.TheConstants.{MONTH_LIMIT}
use Rattle.opt_network.proofs.FedMarks.{names_some, fed-any}
use Rattle.opt_network.proofs.fed.FedMonths.of_tables.Goals as goal

pub returns : goal.returns
returns c place month is_month =
    let t = c.args.tables.now in
    let most : month ≤ MONTH_LIMIT = omega (arith, is_month.1, c.requires.settings.months.1) in
    let size : length t.persons ≤ c.loop-persons.persons-index = omega (arith, ap length c.persons-persons-items.ensures, c.loop-persons-test.false) in
    c.loop-persons.invariant.marked place month is_month.0 most
    ∙ (ap (list_any (names_some place month)) (take_all c.loop-persons.persons-index t.persons size) ∙ fed-any t c.requires place month)
