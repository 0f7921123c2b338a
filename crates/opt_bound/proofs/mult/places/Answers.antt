use Rattle.std.proofs.Common.{◌≡◌, ◌-◌, ℕ, ℤ, length, get_or, ap, arith}
use Rattle.opt_sums.proofs.RisingLemmas.{rising_last}
use Rattle.opt_bound.proofs.mult.places.Goals as goal

pub returns-in-Some : goal.returns-in-Some
returns-in-Some c k d h =
    let last : c.in-Some.last.now ≡ get_or c.args.entries.now (length c.args.entries.now - 1) d = c.in-Some.ensures.item.4 (omega arith) d in
    omega (arith, rising_last c.args.entries.now k d c.requires h, ap (λ (e : ℕ × ℤ). e.0) last)
