use Rattle.std.proofs.Common.{◌≡◌, ◌+◌, ◌<◌, length, true, false, refl, subst, sym, ◌∙◌, arith}
use Rattle.std.proofs.lemmas.List.{get_or_read}
use Rattle.opt_bound.specs.declared.leaf.Leaf.TheVariants.{Empty}
use Rattle.opt_search.proofs.LeastBound.{IsLeastTo, least_leaf, least_other, least_all}
use Rattle.opt_search.proofs.conclusion.least_of.Goals as goal
use Rattle.opt_search.proofs.conclusion.least_of.Goals.{then-is_leaf, else-is_leaf}

pub loop-i-preserved : goal.loop-i-preserved
loop-i-preserved c = elim c.if-is_leaf.branch [
  | then-is_leaf w ↦
      let below : c.loop-i.i < length c.args.state.now.shown.items = omega (arith, c.nodes-i-end.ensures.count) in
      least_leaf c.args.state.now c.loop-i.i w.index.result.now c.loop-i.least c.if-is_leaf.least
      (get_or_read c.args.state.now.shown.items c.loop-i.i w.index.result.now below w.index.ensures Empty)
      (w.least-is ∙ w.lower-least.ensures)
      (w.if-is_leaf.ensures.0 refl)
      below
      c.loop-i.invariant
  | else-is_leaf w ↦
      subst (IsLeastTo c.args.state.now (c.loop-i.i + 1)) (sym w.least-is)
      (least_other c.args.state.now c.loop-i.i c.loop-i.least (λ h. let clash : false ≡ true = w.if-is_leaf.ensures.1 h in cc) c.loop-i.invariant)
]

pub returns : goal.returns
returns c = least_all _ _ _ (omega arith) c.loop-i.invariant
