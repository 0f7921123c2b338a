use Rattle.opt_dive.proofs.FixLemmas.{fixed-start, fixed-next}
use Rattle.opt_dive.proofs.fixing.fix_first.Goals as goal

pub loop-j-init : goal.loop-j-init
loop-j-init c = fixed-start c.args.point.now c.args.range.now c.requires.ordered

pub loop-j-preserved : goal.loop-j-preserved
loop-j-preserved c =
    fixed-next c.loop-j.j c.args.point.now c.args.range.now c.loop-j.range c.fix_up.new.range c.loop-j.invariant c.fix_up.ensures.value c.fix_up.ensures.ordered c.fix_up.ensures.within
