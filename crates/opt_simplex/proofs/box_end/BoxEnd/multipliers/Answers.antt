use Rattle.std.proofs.Common.{ap, sym, ◌∙◌}
use Rattle.std.proofs.lemmas.Result.{IfOk-weaker}
use Rattle.opt_bound.specs.Multipliers.{Multipliers, IsAdmissible}
use Rattle.opt_bound.specs.Clip.{KeepsAdmissible}
use Rattle.opt_simplex.proofs.GuideLemmas.{multipliers_fitting}
use Rattle.opt_simplex.proofs.box_end.BoxEnd.multipliers.Goals as goal

pub returns-clause-admissible : goal.returns-clause-admissible
returns-clause-admissible c =
    IfOk-weaker c.clip.result (KeepsAdmissible c.entries.result.now) (IsAdmissible c.args.self.now.system)
    (λ m keeps. keeps c.args.self.now.system
    (rw (c.entries.ensures.value ∙ ap (λ (m : Multipliers). m.entries) c.multipliers-raw.ensures)
    (rw (sym c.self.view_is) (multipliers_fitting c.self.inside.system c.self.inside.range c.self.inside.end c.self.invariant.sound))))
    c.clip.ensures.admissible
