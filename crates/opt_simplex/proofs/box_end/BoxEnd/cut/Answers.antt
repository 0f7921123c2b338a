use Rattle.std.proofs.Common.{All, subst, sym}
use Rattle.opt_simplex.specs.Kept.{IsFraction}
use Rattle.opt_simplex.proofs.GuideLemmas.{floors_small, cut_proper}
use Rattle.opt_simplex.proofs.box_end.BoxEnd.cut.Goals as goal

pub first_cut-requires-clause-small : goal.first_cut-requires-clause-small
first_cut-requires-clause-small c =
    rw c.fractions.ensures.value
    (floors_small c.self.inside.system c.self.inside.range c.self.invariant.limited c.self.invariant.ordered c.self.invariant.within c.self.inside.end c.self.invariant.sound
    (subst (All IsFraction) c.fractions.ensures.value c.fractions.ensures.proper))

pub returns-clause-proper : goal.returns-clause-proper
returns-clause-proper c =
    rw c.first_cut.ensures
    (rw c.fractions.ensures.value
    (rw (sym c.self.view_is)
    (rw (sym c.self.invariant.reached)
    (cut_proper c.self.inside.system c.self.inside.range c.self.invariant.limited c.self.invariant.ordered c.self.invariant.within c.self.inside.end c.self.invariant.sound
    (subst (All IsFraction) c.fractions.ensures.value c.fractions.ensures.proper)))))
