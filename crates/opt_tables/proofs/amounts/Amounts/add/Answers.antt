use Rattle.std.proofs.Common.{◌≡◌, false, sym, ap, ◌∙◌}
use Rattle.opt_tables.specs.Amounts.{with_amount}
use Rattle.opt_tables.proofs.Spots.{with_new}
use Rattle.opt_tables.proofs.amounts.Amounts.add.Goals as goal

pub returns : goal.returns
returns c =
    c.in_ok-insert.ensures.entries
    ∙ (with_new c.self.inside.amounts.entries c.args.spot c.args.amount (sym c.contains_key.ensures ∙ c.if-contains_key.false)
    ∙ ap (λ entries. with_amount entries c.args.spot c.args.amount) c.self.view_is)
