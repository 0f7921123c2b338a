use Rattle.std.proofs.Common.{◌++◌, map, Some, ap, sym, subst, ◌∙◌}
use Rattle.opt_simplex.specs.Variables.{row_high}
use Rattle.opt_simplex.specs.Shape.{AreKept}
use Rattle.opt_simplex.proofs.KeptVariables.{kept-variables, variables_same}
use Rattle.opt_simplex.proofs.variables.Variables.new.Goals as goal

pub invariant_of-result : goal.invariant_of-result
invariant_of-result c =
    subst AreKept
    (sym (variables_same c.args.system.now c.args.range.now c.quantities-quantities.result c.push_row_lows.new.lows.items c.push_row_highs.new.highs.items c.quantities-quantities.ensures.count
    (c.in_ok-push_row_lows.ensures ∙ ap (λ xs. xs ++ map (λ row. row.right_hand_side) c.args.system.now.rows)
    (c.in_ok-push_lows.ensures ∙ ap (λ xs. xs ++ c.low.result.now) c.new-low.ensures.items ∙ c.low.ensures.value))
    (c.in_ok-push_row_highs.ensures ∙ ap (λ xs. xs ++ map (λ row. row_high row.kind row.right_hand_side) c.args.system.now.rows)
    (c.in_ok-push_highs.ensures ∙ ap (λ xs. xs ++ map Some c.high.result.now) c.new-high.ensures.items ∙ ap (map Some) c.high.ensures.value))))
    (kept-variables c.args.system.now c.args.range.now c.quantities-quantities.ensures.limited c.low.ensures.ordered c.requires)
