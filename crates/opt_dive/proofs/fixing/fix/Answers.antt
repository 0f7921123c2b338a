use Rattle.std.proofs.Common.{◌≡◌, sym, subst, arith}
use Rattle.std.proofs.lemmas.Int.{ints}
use Rattle.opt_system.specs.Ranges.{IsOrdered, LiesIn}
use Rattle.opt_dive.specs.Rounding.{fix}
use Rattle.opt_dive.proofs.FixLemmas.{fix-length, fix-low, fix-value, IsOrdered-fix, LiesIn-fix}
use Rattle.opt_dive.proofs.fixing.fix.Goals as goal

pub set_low-requires-clause-from_zero : goal.set_low-requires-clause-from_zero
set_low-requires-clause-from_zero c =
    omega (arith, ints, c.requires.from_low, c.requires.ordered.from_zero c.args.j c.requires.quantity)

pub set_high-requires-clause-quantity : goal.set_high-requires-clause-quantity
set_high-requires-clause-quantity c =
    omega (arith, c.requires.quantity, fix-length c.args.range.now c.set_low.new.self c.args.j _ c.set_low.ensures)

pub set_high-requires-clause-from_low : goal.set_high-requires-clause-from_low
set_high-requires-clause-from_low c =
    omega (arith, ints, fix-low c.args.range.now c.set_low.new.self c.args.j _ c.set_low.ensures c.requires.quantity)

fixed : (c : goal.After-set_high) → c.set_high.new.self ≡ fix c.args.range.now c.args.j c.args.value
fixed c =
    fix-value c.args.range.now c.set_low.new.self c.set_high.new.self c.args.j c.args.value _ _ c.set_low.ensures c.set_high.ensures
    (omega (arith, ints))
    (omega (arith, ints))

pub returns-clause-value : goal.returns-clause-value
returns-clause-value c = fixed c

pub returns-clause-ordered : goal.returns-clause-ordered
returns-clause-ordered c =
    subst IsOrdered (sym (fixed c))
    (IsOrdered-fix c.args.range.now c.args.j c.args.value c.requires.ordered c.requires.quantity c.requires.from_low c.requires.to_high)

pub returns-clause-within : goal.returns-clause-within
returns-clause-within c =
    subst (LiesIn c.args.range.now) (sym (fixed c))
    (LiesIn-fix c.args.range.now c.args.j c.args.value c.requires.ordered c.requires.quantity c.requires.from_low c.requires.to_high)
