use Rattle.std.proofs.Common.{◌≡◌, ◌≢◌, ap, sym, ◌∙◌, ◌++◌, [], ◌∷◌, pos, get_or, FitsSigned, arith}
use Rattle.std.proofs.lemmas.Int.{ints, to_z-of_z}
use mir.Syntax.{w64}
use Rattle.opt_bound.specs.Clip.{cut}
use Rattle.opt_bound.proofs.ClipLemmas.{kept_left, kept_gone}
use Rattle.opt_bound.proofs.clipping.cut_entries.Goals as goal
use Rattle.opt_bound.proofs.clipping.cut_entries.Goals.{then-remains+in_ok-push, else-remains}

pub loop-entry-preserved : goal.loop-entry-preserved
loop-entry-preserved c =
    let fits : FitsSigned w64 c.cut-multiplier.result = record { sfits = c.cut-multiplier.type_inv } in
    let value : c.cut-multiplier.result ≡ cut (get_or c.args.entries.now c.loop-entry.entry-index (0, pos 0)).1 c.args.shift =
    c.cut-multiplier.ensures ∙ ap (λ z. cut z c.args.shift) (omega (arith, ints))
    in
    elim c.if-remains.branch [
      | then-remains+in_ok-push w ↦
          let apart : c.cut-multiplier.result ≢ pos 0 = omega (arith, ints, w.if-remains.true) in
          rw w.kept-is
          (w.in_ok-push.ensures.items
          ∙ ap (λ y. c.loop-entry.kept.items ++ ((get_or c.args.entries.now c.loop-entry.entry-index (0, pos 0)).0, y) ∷ []) (to_z-of_z w64 c.cut-multiplier.result fits)
          ∙ ap (λ k. k ++ ((get_or c.args.entries.now c.loop-entry.entry-index (0, pos 0)).0, c.cut-multiplier.result) ∷ []) c.loop-entry.invariant
          ∙ sym (kept_left c.args.shift c.args.entries.now c.loop-entry.entry-index (0, pos 0) c.cut-multiplier.result c.loop-entry-test.true value apart))
      | else-remains w ↦
          let gone : c.cut-multiplier.result ≡ pos 0 = omega (arith, ints, w.if-remains.false) in
          rw w.kept-is
          (c.loop-entry.invariant ∙ sym (kept_gone c.args.shift c.args.entries.now c.loop-entry.entry-index (0, pos 0) c.loop-entry-test.true (sym value ∙ gone)))
    ]
