use Rattle.std.proofs.Common.{sym, ◌∙◌}
use Rattle.opt_network.proofs.Lookups.{position-same}
use Rattle.opt_network.proofs.layout.Layout.index.Goals as goal

pub returns-in_err-i : goal.returns-in_err-i
returns-in_err-i c =
    rw (← c.self.view_is)
    (c.from_residual.ensures ∙ sym c.in_err-i.was ∙ c.get_index_of.ensures.index ∙ position-same c.args.q.now c.self.inside.quantities.keys)

pub returns : goal.returns
returns c =
    rw (← c.self.view_is)
    (sym c.in_ok-i.was ∙ c.get_index_of.ensures.index ∙ position-same c.args.q.now c.self.inside.quantities.keys)
