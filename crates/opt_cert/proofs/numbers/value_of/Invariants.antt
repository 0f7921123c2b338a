use Rattle.std.proofs.Common.{◌≡◌, ◌<◌, ◌^◌, drop}
use Rattle.opt_cert.proofs.NumberLemmas.{value_on}
use Rattle.opt_cert.proofs.numbers.value_of.Given as goal

abbrev pub invariant-loop-digit : goal.invariant-loop-digit
invariant-loop-digit l = (value_on l.value (drop l.digit-index l.digits) ≡ value_on 0 l.digits) × (l.value < 2 ^ 128)
