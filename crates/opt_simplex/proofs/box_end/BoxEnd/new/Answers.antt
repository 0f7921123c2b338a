use Rattle.opt_simplex.proofs.GuideLemmas.{is_end_on}
use Rattle.opt_simplex.proofs.box_end.BoxEnd.new.Goals as goal

pub invariant_of-result : goal.invariant_of-result
invariant_of-result c =
    is_end_on c.args.system.now c.args.range.now c.quantities-quantities.ensures.limited c.in_ok-range.ensures.ordered c.requires c.in_ok-system.system c.in_ok-range.range c.in_ok-end.end
    c.in_ok-system.ensures c.in_ok-range.ensures.copy c.in_ok-end.ensures.end c.in_ok-end.ensures.sound
