use Rattle.std.proofs.Common.{not, is_some, ap, sym, ◌∙◌}
use Rattle.opt_bound.proofs.FaultLemmas.{admissible_of, no_fault, none_of, false_of}
use Rattle.opt_bound.proofs.mult.Mult.admissible.Goals as goal

pub returns : goal.returns
returns c = (
  λ t. admissible_of c.args.system.now c.args.self.now.entries
      (sym c.first_fault.ensures ∙ none_of c.first_fault.result (c.is_none.ensures ∙ ap not t)),
  λ all. false_of c.is_none.result
      (sym c.is_none.ensures ∙ ap is_some (c.first_fault.ensures ∙ no_fault c.args.system.now c.args.self.now.entries all)),
)
