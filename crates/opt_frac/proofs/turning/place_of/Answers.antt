use Rattle.std.proofs.Common.{◌<◌, All, get_or, length, pos, arith}
use Rattle.std.proofs.lemmas.List.{take_all, drop_all}
use Rattle.std.proofs.lemmas.List.Elements.{All-more, All-nil}
use Rattle.opt_frac.proofs.RestLemmas.{drop_above}
use Rattle.opt_frac.proofs.TurnLemmas.{more_place}
use Rattle.opt_frac.proofs.turning.place_of.Goals as goal

pub returns-then-variable-terms-clause-place : goal.returns-then-variable-terms-clause-place
returns-then-variable-terms-clause-place c =
    λ z. more_place (c.args.variable, z) c.args.terms.now c.loop-i.i c.loop-i.invariant
    (drop_above c.args.variable c.args.terms.now c.loop-i.i c.requires.rising c.loop-i-test.true c.if-variable-terms.true)

pub loop-i-preserved : goal.loop-i-preserved
loop-i-preserved c =
    let apart = c.requires.apart c.loop-i.i (0, pos 0) c.loop-i-test.true in
    let below : (get_or c.args.terms.now c.loop-i.i (0, pos 0)).0 < c.args.variable = omega (arith, apart, c.if-variable-terms.false) in
    All-more (λ e. e.0 < c.args.variable) c.args.terms.now c.loop-i.i (0, pos 0) c.loop-i-test.true c.loop-i.invariant below

pub returns-clause-place : goal.returns-clause-place
returns-clause-place c =
    let all : All (λ e. e.0 < c.args.variable) c.args.terms.now =
    rw (take_all c.loop-i.i c.args.terms.now (omega (arith, c.loop-i-test.false))) at c.loop-i.invariant
    in
    λ z. more_place (c.args.variable, z) c.args.terms.now (length c.args.terms.now)
    (rw (take_all (length c.args.terms.now) c.args.terms.now (omega arith)) all)
    (rw (drop_all (length c.args.terms.now) c.args.terms.now (omega arith)) (All-nil (λ e. c.args.variable < e.0)))
