use Rattle.std.proofs.Common.{refl, sym, ◌∙◌, arith}
use Rattle.std.proofs.lemmas.List.{append-nil}
use Rattle.std.proofs.lemmas.Result.{err_from_is_err_and}
use Rattle.opt_frac.specs.Divisors.{fits}
use Rattle.opt_frac.specs.Merging.{multiple_at}
use Rattle.opt_frac.proofs.MergeLemmas.{keeps_more, keeps_unfit}
use Rattle.opt_frac.proofs.RestLemmas.{rest_skip, rest_take, rest_done}
use Rattle.opt_frac.proofs.WritesLemmas.{Writes-whole}
use Rattle.opt_frac.proofs.merging.push_rest.Goals as goal
use Rattle.opt_frac.proofs.merging.push_rest.Goals.{then-multiple-i+in_ok-push_term, else-multiple-i}

pub loop-i-init : goal.loop-i-init
loop-i-init c = record { keeps = (refl, refl); room = omega arith; capacity = refl }

pub loop-i-preserved : goal.loop-i-preserved
loop-i-preserved c =
    elim c.if-multiple-i.branch [
      | then-multiple-i+in_ok-push_term w ↦
          rw w.sums-is
          record {
            keeps =
                rw w.in_ok-push_term.ensures.written.1
                (keeps_more c.loop-i.sums.items (multiple_at c.args.multiple.factor c.args.multiple.terms.now c.loop-i.i) _ _ _ w.in_ok-push_term.ensures.written.0
                (rw (rest_take c.args.multiple.factor c.args.col c.args.multiple.terms.now c.loop-i.i c.loop-i-test.true w.if-multiple-i.true) at c.loop-i.invariant.keeps));
            room = omega (arith, w.in_ok-push_term.ensures.len, c.loop-i.invariant.room, c.loop-i-test.true);
            capacity = w.in_ok-push_term.ensures.capacity ∙ c.loop-i.invariant.capacity;
          }
      | else-multiple-i w ↦
          rw w.sums-is
          record {
            keeps =
                rw (← rest_skip c.args.multiple.factor c.args.col c.args.multiple.terms.now c.loop-i.i c.loop-i-test.true w.if-multiple-i.false)
                c.loop-i.invariant.keeps;
            room = omega (arith, c.loop-i.invariant.room, c.loop-i-test.true);
            capacity = c.loop-i.invariant.capacity;
          }
    ]

pub returns-in_err-push_term-clause-written : goal.returns-in_err-push_term-clause-written
returns-in_err-push_term-clause-written c =
    let fault = err_from_is_err_and c.from_residual.result c.from_residual.ensures.1 in
    let term = multiple_at c.args.multiple.factor c.args.multiple.terms.now c.loop-i.i in
    rw (fault.1, fault.2)
    (Writes-whole (Unit {0}) (Unit {0}) c.in_err-push_term.field-0.0 (fits term.1) _ _ _ _ _ _ _
    (λ unfit. keeps_unfit c.loop-i.sums.items term _ _ _ unfit (rw (rest_take c.args.multiple.factor c.args.col c.args.multiple.terms.now c.loop-i.i c.loop-i-test.true c.if-multiple-i.true) at c.loop-i.invariant.keeps))
    c.in_err-push_term.ensures.written)

pub returns-clause-written : goal.returns-clause-written
returns-clause-written c =
    let done = rest_done c.args.multiple.factor c.args.col c.args.multiple.terms.now c.loop-i.i (omega (arith, c.loop-i-test.false)) in
    let is = rw done at c.loop-i.invariant.keeps in
    (sym is.1, sym (append-nil c.loop-i.sums.items) ∙ is.0)
