use Rattle.std.proofs.Common.{ap, ◌∙◌, pos, arith, take_all}
use Rattle.std.proofs.lemmas.Int.{ints}
use Rattle.std.proofs.lemmas.List.{length-set}
use Rattle.opt_sums.specs.Entries.{coef}
use Rattle.opt_check.proofs.PointSteps.{at-put, at-past, is_point_of}
use Rattle.opt_check.proofs.point.point_of.Goals as goal
use Rattle.opt_check.proofs.point.point_of.Goals.{then-entry-quantities, else-entry-quantities}

pub loop-entry-preserved : goal.loop-entry-preserved
loop-entry-preserved c =
    elim c.if-entry-quantities.branch [
      | then-entry-quantities w ↦
          rw w.x-is (
            length-set c.loop-entry.x.items _ _ ∙ c.loop-entry.invariant.0,
            λ k h. at-put c.loop-entry.x.items c.args.entries.now c.loop-entry.entry-index k (0, pos 0) _ c.requires c.loop-entry-test.true (omega (arith, c.loop-entry.invariant.0)) (omega (arith, ints)) (c.loop-entry.invariant.1 k h),
          )
      | else-entry-quantities w ↦
          rw w.x-is (
            c.loop-entry.invariant.0,
            λ k h. at-past c.loop-entry.x.items c.args.entries.now c.loop-entry.entry-index k (0, pos 0) c.loop-entry-test.true (omega (arith, w.if-entry-quantities.false)) (c.loop-entry.invariant.1 k h),
          )
    ]

pub returns : goal.returns
returns c =
    is_point_of c.loop-entry.x.items c.args.quantities c.args.entries.now c.loop-entry.invariant.0
    (λ k h. c.loop-entry.invariant.1 k h ∙ ap (λ es. coef es k) (take_all c.loop-entry.entry-index c.args.entries.now c.loop-entry-test.false))

pub index_mut-requires : goal.index_mut-requires
index_mut-requires c = omega (arith, c.loop-entry.invariant.0, c.if-entry-quantities.true, c.loop-entry.x.ok.0)
