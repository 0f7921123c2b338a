use Rattle.std.proofs.Common.{◌≡◌, get_or, pos, ap, sym, arith}
use Rattle.std.proofs.lemmas.Int.{ints}
use Rattle.std.proofs.lemmas.List.{take_all}
use Rattle.opt_sums.specs.Entries.{coef}
use Rattle.opt_sums.proofs.EntryLemmas.{coef-none}
use Rattle.opt_sums.proofs.RisingLemmas.{coef-get_or}
use Rattle.opt_frac.proofs.elimination.coefficient.Goals as goal

pub returns-then-term-variable : goal.returns-then-term-variable
returns-then-term-variable c =
    let here : coef c.args.terms.now (get_or c.args.terms.now c.loop-term.term-index (0, pos 0)).0 ≡ (get_or c.args.terms.now c.loop-term.term-index (0, pos 0)).1 =
    coef-get_or c.args.terms.now c.loop-term.term-index (0, pos 0) c.requires c.loop-term-test.true
    in
    omega (arith, ints, ap (coef c.args.terms.now) c.if-term-variable.true)

pub returns : goal.returns
returns c =
    sym (coef-none c.args.terms.now c.args.variable
    (rw (take_all c.loop-term.term-index c.args.terms.now (omega (arith, c.loop-term-test.false))) at c.loop-term.invariant))
