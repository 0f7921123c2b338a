use Rattle.std.proofs.Common.{◌≡◌, false, List, ℤ, ap, sym, ◌∙◌, subst}
use Rattle.std.specs.Prelude.{IfOk}
use Rattle.opt_bound.specs.declared.leaf.Leaf.{Leaf}
use Rattle.opt_tree.specs.Shown.{leaf_at, is_closed}
use Rattle.opt_search.specs.Guided.{IsPointLine}
use Rattle.opt_search.specs.State.{known_in}
use Rattle.opt_search.proofs.BoxSteps.{closing_result, not_empty}
use Rattle.opt_search.proofs.growth.closing_line.Goals as goal

pub returns-else-is_closed : goal.returns-else-is_closed
returns-else-is_closed c =
    let unclosed : is_closed (known_in c.args.task.now.gap c.args.state.now) (leaf_at c.args.task.now.system.now c.args.range.now c.args.mult) ≡ false =
    ap (λ (l : Leaf). is_closed (known_in c.args.task.now.gap c.args.state.now) l) (sym c.leaf_at.ensures.value) ∙ sym c.is_closed.ensures ∙ c.if-is_closed.false
    in
    closing_result c.args.task.now.system.now (known_in c.args.task.now.gap c.args.state.now) c.args.range.now c.args.mult c.point_line.result
    (record { limited = c.quantities-quantities.ensures.limited; inside = c.requires.inside; one = c.requires.point; gap_from_zero = c.requires.gap_from_zero; weighed = c.requires.weighed })
    (not_empty (known_in c.args.task.now.gap c.args.state.now) (leaf_at c.args.task.now.system.now c.args.range.now c.args.mult) unclosed)
    (subst (λ (xs : List ℤ). IfOk c.point_line.result (IsPointLine c.args.task.now.system.now xs)) c.low.ensures.value c.point_line.ensures)
