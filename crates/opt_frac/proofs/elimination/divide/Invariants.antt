use Rattle.std.proofs.Common.{◌≡◌, take, drop}
use Rattle.opt_frac.specs.Divisors.{quotients}
use Rattle.opt_frac.proofs.elimination.divide.Given as goal

abbrev pub invariant-loop-i : goal.invariant-loop-i
invariant-loop-i l = (take l.i l.terms ≡ quotients l.divisor (take l.i l.initial.terms)) × (drop l.i l.terms ≡ drop l.i l.initial.terms)
