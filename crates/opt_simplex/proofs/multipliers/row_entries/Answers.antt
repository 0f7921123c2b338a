use Rattle.std.proofs.Common.{◌+◌, ◌-◌, ◌<◌, ◌≤◌, [], ◌∷◌, ◌++◌, pos, get_or, drop, FitsSigned, ap, ◌∙◌, arith}
use Rattle.std.proofs.lemmas.Int.{to_z-of_z}
use mir.Syntax.{w128}
use Rattle.opt_frac.proofs.FitLemmas.{signed}
use Rattle.opt_frac.specs.Elimination.{negated_if}
use Rattle.opt_simplex.specs.Tableau.{at_rows}
use Rattle.opt_simplex.proofs.EntrySteps.{entry-left, entry-gone}
use Rattle.opt_simplex.proofs.multipliers.row_entries.Goals as goal
use Rattle.opt_simplex.proofs.multipliers.row_entries.Goals.{then-term-quantities+in_ok-push, else-term-quantities}

pub loop-term-preserved : goal.loop-term-preserved
loop-term-preserved c =
    elim c.if-term-quantities.branch [
      | then-term-quantities+in_ok-push w ↦
          let past : c.args.quantities ≤ (get_or c.args.terms.now c.loop-term.term-index (0, pos 0)).0 = omega (arith, w.if-term-quantities.true) in
          let fits : FitsSigned w128 w.negate_if.result = record { sfits = w.negate_if.type_inv } in
          let term_fits : FitsSigned w128 (get_or c.args.terms.now c.loop-term.term-index (0, pos 0)).1 =
          signed (get_or c.args.terms.now c.loop-term.term-index (0, pos 0)).1 (c.requires c.loop-term.term-index (0, pos 0) c.loop-term-test.true) in
          rw w.entries-is
          (ap (λ es. es ++ at_rows c.args.quantities (negated_if c.args.negative (drop (c.loop-term.term-index + 1) c.args.terms.now)))
          (w.in_ok-push.ensures.items
          ∙ ap (λ y. c.loop-term.entries.items ++ ((get_or c.args.terms.now c.loop-term.term-index (0, pos 0)).0 - c.args.quantities, y) ∷ []) (to_z-of_z w128 w.negate_if.result fits))
          ∙ entry-left c.args.quantities c.args.negative c.args.terms.now c.loop-term.entries.items (at_rows c.args.quantities (negated_if c.args.negative c.args.terms.now)) c.loop-term.term-index (0, pos 0) w.negate_if.result c.loop-term-test.true past
          (rw (to_z-of_z w128 (get_or c.args.terms.now c.loop-term.term-index (0, pos 0)).1 term_fits) at w.negate_if.ensures)
          c.loop-term.invariant)
      | else-term-quantities w ↦
          let before : (get_or c.args.terms.now c.loop-term.term-index (0, pos 0)).0 < c.args.quantities = omega (arith, w.if-term-quantities.false) in
          rw w.entries-is
          (entry-gone c.args.quantities c.args.negative c.args.terms.now c.loop-term.entries.items (at_rows c.args.quantities (negated_if c.args.negative c.args.terms.now)) c.loop-term.term-index (0, pos 0) c.loop-term-test.true before c.loop-term.invariant)
    ]
