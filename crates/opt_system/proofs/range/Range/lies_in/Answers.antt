use Rattle.std.proofs.Common.{◌≤ℤ◌, ap, refl, arith, length}
use Rattle.std.proofs.lemmas.Int.{ints}
use Rattle.opt_sums.specs.Sums.{at}
use Rattle.opt_system.proofs.range.Range.lies_in.Goals as goal

pub returns : goal.returns
returns c =
    rw (← c.self.view_is, ← c.outer.view_is) (
      λ t. record {
        same_length = omega (arith, c.if-len.false, c.len.ensures, c.len-2.ensures);
        above = λ j h.
            let above : at c.deref.result.now j ≤ℤ at c.deref-2.result.now j = c.if-not-at_most.ensures.0 refl j (omega (arith, h, ap length c.deref.ensures.value, c.if-len.false, c.len.ensures, c.len-2.ensures)) in
            omega (arith, ints, above, ap (λ l. at l j) c.deref.ensures.value, ap (λ l. at l j) c.deref-2.ensures.value);
        below = λ j h.
            let below : at c.deref-3.result.now j ≤ℤ at c.deref-4.result.now j = c.at_most-2.ensures.0 t j (omega (arith, h, ap length c.deref-3.ensures.value, c.self.invariant.same_length)) in
            omega (arith, ints, below, ap (λ l. at l j) c.deref-3.ensures.value, ap (λ l. at l j) c.deref-4.ensures.value);
      },
      λ inside. c.at_most-2.ensures.1
          (λ j h.
          let below : at c.self.inside.high.items j ≤ℤ at c.outer.inside.high.items j = inside.below j (omega (arith, h, ap length c.deref-3.ensures.value, c.self.invariant.same_length)) in
          omega (arith, ints, below, ap (λ l. at l j) c.deref-3.ensures.value, ap (λ l. at l j) c.deref-4.ensures.value)),
    )
