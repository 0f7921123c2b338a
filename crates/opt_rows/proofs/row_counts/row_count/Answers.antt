use Rattle.std.proofs.Common.{◌≡◌, count_by, ap, ◌∙◌, arith}
use Rattle.std.specs.Prelude.{is_some}
use Rattle.std.specs.Int.{from_bool}
use Rattle.opt_model.specs.Quantities.{quantities}
use Rattle.opt_rows.specs.Counting.{has_two_rows}
use Rattle.opt_rows.proofs.SystemCounts.{counted}
use Rattle.opt_rows.proofs.row_counts.row_count.Goals as goal

pub returns : goal.returns
returns c =
    let t = c.args.tables.now in
    let own : count_by has_two_rows c.args.layout.now.quantities ≡ count_by has_two_rows (quantities t) = ap (λ l. count_by has_two_rows l.quantities) c.requires.same in
    let set : c.budget.result ≡ t.settings.budget = c.budget.ensures ∙ ap (λ s. s.budget) c.settings.ensures.value in
    let budget : c.from.result ≡ from_bool (is_some t.settings.budget) = c.from.ensures ∙ ap from_bool (c.is_some.ensures ∙ ap is_some set) in
    let cap : c.from-2.result ≡ from_bool (is_some c.args.cap) = c.from-2.ensures ∙ ap from_bool c.is_some-2.ensures in
    omega (
      arith,
      counted t c.args.cap,
      own,
      budget,
      cap,
      c.diet_count.ensures.value,
      c.balance_count.ensures.value,
      c.arc_count.ensures.value,
      c.place_count.ensures.value,
      c.own_count.ensures.value,
    )
