use Rattle.std.proofs.Common.{sym, ◌∙◌}
use Rattle.opt_report.proofs.NameLists.{found}
use Rattle.opt_report.proofs.names.Names.find.Goals as goal

pub returns-in_err-number : goal.returns-in_err-number
returns-in_err-number c =
    rw (← c.self.view_is)
    (c.from_residual.ensures ∙ sym c.in_err-number.was ∙ c.get_index_of.ensures.index ∙ found c.args.name.now c.self.inside.names.keys)

pub returns : goal.returns
returns c =
    rw (← c.self.view_is)
    (sym c.in_ok-number.was ∙ c.get_index_of.ensures.index ∙ found c.args.name.now c.self.inside.names.keys)
