use Rattle.std.proofs.Common.{◌≡◌, ◌≤◌, ◌⊎◌, length, inl, inr, arith}
use Rattle.std.proofs.lemmas.Result.{err_from_is_err_and}
use Rattle.opt_frac.specs.Divisors.{fits}
use Rattle.opt_frac.specs.Merging.{rest_of, multiple_at, term_at, sum_fits}
use Rattle.opt_frac.proofs.RestLemmas.{rest_alone, Adds-end}
use Rattle.opt_frac.proofs.StepLemmas.{left_step, right_step, right_unfit, both_step, both_unfit, left_by_end, Writes-end}
use Rattle.opt_frac.proofs.WritesLemmas.{Writes-whole}
use Rattle.opt_frac.proofs.merging.add_multiples.Goals as goal
use Rattle.opt_frac.proofs.merging.add_multiples.Goals.{Else-second-first, After-push_rest-2, then-loop-i-test+else-k-added, else-loop-i-test}

pub loop-i-preserved-then-first-second : goal.loop-i-preserved-then-first-second
loop-i-preserved-then-first-second c =
    record {
      remains =
          rw c.in_ok-push_term.ensures.written.1
          (left_step c.args.kept.factor c.args.added.factor c.args.col c.args.kept.terms.now c.args.added.terms.now c.loop-i.sums.items _ _ c.loop-i.i c.loop-i.k c.requires.kept_rising c.requires.added_rising c.loop-i-test.true c.if-k-added.true c.loop-i.invariant.remains c.if-first-col.false c.if-first-second.true c.in_ok-push_term.ensures.written.0);
      room = omega (arith, c.in_ok-push_term.ensures.len, c.in_ok-push_term.ensures.capacity, c.loop-i.invariant.room, c.loop-i-test.true, c.if-k-added.true);
    }

pub returns-in_err-push_term-2 : goal.returns-in_err-push_term-2
returns-in_err-push_term-2 c =
    let fault = err_from_is_err_and c.from_residual-in_err-push_term-2.result c.from_residual-in_err-push_term-2.ensures.1 in
    rw (fault.1, fault.2)
    (Writes-whole (Unit {0}) (Unit {0}) c.in_err-push_term-2.field-0.0 (fits (multiple_at c.args.added.factor c.args.added.terms.now c.loop-i.k).1) _ _ _ _ _ _ _
    (right_unfit c.args.kept.factor c.args.added.factor c.args.col c.args.kept.terms.now c.args.added.terms.now c.loop-i.sums.items _ _ c.loop-i.i c.loop-i.k c.requires.kept_rising c.requires.added_rising c.loop-i-test.true c.if-k-added.true c.loop-i.invariant.remains (c.requires.apart c.loop-i.k _ c.if-k-added.true))
    c.in_err-push_term-2.ensures.written)

pub loop-i-preserved-then-second-first : goal.loop-i-preserved-then-second-first
loop-i-preserved-then-second-first c =
    record {
      remains =
          rw c.in_ok-push_term-2.ensures.written.1
          (right_step c.args.kept.factor c.args.added.factor c.args.col c.args.kept.terms.now c.args.added.terms.now c.loop-i.sums.items _ _ c.loop-i.i c.loop-i.k c.requires.kept_rising c.requires.added_rising c.loop-i-test.true c.if-k-added.true c.loop-i.invariant.remains (c.requires.apart c.loop-i.k _ c.if-k-added.true) c.if-second-first.true c.in_ok-push_term-2.ensures.written.0);
      room = omega (arith, c.in_ok-push_term-2.ensures.len, c.in_ok-push_term-2.ensures.capacity, c.loop-i.invariant.room, c.loop-i-test.true, c.if-k-added.true);
    }

-- both terms are at the same variable
same : (c : Else-second-first) → (term_at c.args.kept.terms.now c.loop-i.i).0 ≡ (term_at c.args.added.terms.now c.loop-i.k).0
same c =
    let above : (term_at c.args.added.terms.now c.loop-i.k).0 ≤ (term_at c.args.kept.terms.now c.loop-i.i).0 = omega (arith, c.if-first-second.false) in
    let below : (term_at c.args.kept.terms.now c.loop-i.i).0 ≤ (term_at c.args.added.terms.now c.loop-i.k).0 = omega (arith, c.if-second-first.false) in
    omega arith

pub returns-in_err-push_sum : goal.returns-in_err-push_sum
returns-in_err-push_sum c =
    let fault = err_from_is_err_and c.from_residual-in_err-push_sum.result c.from_residual-in_err-push_sum.ensures.1 in
    rw (fault.1, fault.2)
    (Writes-whole (Unit {0}) (Unit {0}) c.in_err-push_sum.field-0.0 (sum_fits (multiple_at c.args.kept.factor c.args.kept.terms.now c.loop-i.i).1 (multiple_at c.args.added.factor c.args.added.terms.now c.loop-i.k).1) _ _ _ _ _ _ _
    (both_unfit c.args.kept.factor c.args.added.factor c.args.col c.args.kept.terms.now c.args.added.terms.now c.loop-i.sums.items _ _ c.loop-i.i c.loop-i.k c.requires.kept_rising c.requires.added_rising c.loop-i-test.true c.if-k-added.true c.loop-i.invariant.remains c.if-first-col.false (same (goal.at.returns-in_err-push_sum c).Else-second-first))
    c.in_err-push_sum.ensures.written)

pub loop-i-preserved : goal.loop-i-preserved
loop-i-preserved c =
    record {
      remains =
          rw c.in_ok-push_sum.ensures.written.1
          (both_step c.args.kept.factor c.args.added.factor c.args.col c.args.kept.terms.now c.args.added.terms.now c.loop-i.sums.items _ _ c.loop-i.i c.loop-i.k c.requires.kept_rising c.requires.added_rising c.loop-i-test.true c.if-k-added.true c.loop-i.invariant.remains c.if-first-col.false (same (goal.at.loop-i-preserved c).Else-second-first) c.in_ok-push_sum.ensures.written.0);
      room = omega (arith, c.in_ok-push_sum.ensures.len, c.in_ok-push_sum.ensures.capacity, c.loop-i.invariant.room, c.loop-i-test.true, c.if-k-added.true);
    }

used_up : (c : After-push_rest-2) → (length c.args.kept.terms.now ≤ c.loop-i.i) ⊎ (length c.args.added.terms.now ≤ c.loop-i.k)
used_up c =
    elim c.loop-i-test.branch [
      | then-loop-i-test+else-k-added w ↦ inr (omega (arith, w.if-k-added.false))
      | else-loop-i-test w ↦ inl (omega (arith, w.loop-i-test.false))
    ]

pub returns : goal.returns
returns c =
    let first = rest_of c.args.kept.factor c.args.col c.args.kept.terms.now c.loop-i.i in
    let second = rest_of c.args.added.factor c.args.col c.args.added.terms.now c.loop-i.k in
    Writes-end c.push_rest-2.result c.loop-i.sums.items c.push_rest.new.sums.items c.push_rest-2.new.sums.items first second _ _
    (Adds-end c.loop-i.sums.items first second _ _
    (rest_alone c.args.kept.factor c.args.col c.args.kept.terms.now c.loop-i.i c.requires.kept_rising)
    (left_by_end c.args.kept.factor c.args.added.factor c.args.col c.args.kept.terms.now c.args.added.terms.now c.loop-i.i c.loop-i.k (used_up c))
    c.loop-i.invariant.remains)
    c.in_ok-push_rest.ensures.written.0 c.in_ok-push_rest.ensures.written.1 c.push_rest-2.ensures.written
