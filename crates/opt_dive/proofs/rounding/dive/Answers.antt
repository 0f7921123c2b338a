use Rattle.std.proofs.Common.{IfOk, subst}
use Rattle.opt_system.specs.Ranges.{LiesIn}
use Rattle.opt_system.proofs.CutLemmas.{LiesIn-trans}
use Rattle.opt_dive.specs.Rounding.{IsRoundingOf}
use Rattle.opt_dive.proofs.RoundSteps.{dive-box}
use Rattle.opt_dive.proofs.rounding.dive.Goals as goal

pub round-requires-clause-within : goal.round-requires-clause-within
round-requires-clause-within c =
    LiesIn-trans c.args.system.now.root c.args.range.now c.fix_first.new.range c.requires.within
    (subst (λ b. LiesIn b c.fix_first.new.range) c.in_ok-part.ensures.copy c.fix_first.ensures.within)

pub returns-clause-dive : goal.returns-clause-dive
returns-clause-dive c =
    subst (λ b. IfOk c.round.result (IsRoundingOf c.args.system.now b))
    (dive-box c.args.system.now c.args.range.now c.in_ok-part.part c.fix_first.new.range c.args.point.now c.args.rations c.min-count.result c.quantities.result c.quantities.ensures.limited c.requires.within c.in_ok-part.ensures.copy c.min-count.ensures c.quantities.ensures.count c.fix_first.ensures.value)
    c.round.ensures.rounding
