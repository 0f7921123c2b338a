use Rattle.std.proofs.Common.{◌≡◌, ◌≤◌, ◌<◌, length, refl, ℤ, pos, ◌*ℤ◌, ◌≤ℤ◌, ◌<ℤ◌, unsigned_abs, FitsSigned, ap, ◌∙◌, arith}
use Rattle.std.proofs.lemmas.Int.{ints, to_z-of_z, fits_signed_from_abs}
use mir.Syntax.{w128}
use mir.Val.{to_z, of_z}
use Rattle.opt_sums.specs.Sums.{at}
use Rattle.opt_system.specs.Ranges.{IsOrdered}
use Rattle.opt_bound.specs.Bound.{reduced_cost_of, least_of}
use Rattle.opt_bound.proofs.BoundSizes.{size_end, size_low, size_top, column_short, least_is_low, least_is_high}
use Rattle.opt_bound.proofs.lower.least_part.Goals as goal
use Rattle.opt_bound.proofs.lower.least_part.Goals.{then-reduced_cost-ge0, else-reduced_cost-ge0}

-- the product of the reduced cost and the end that was chosen fits, and is the least part
record IsChosen (c : goal.After-from) : Type 0 where
  ordered : IsOrdered c.args.range.now
  small : unsigned_abs c.from.result ≤ unsigned_abs (at c.args.system.now.root.high c.args.j)
  least : c.reduced_cost-reduced_cost.result *ℤ c.from.result ≡ least_of c.args.system.now c.args.range.now c.args.mult.now c.args.j

chosen : (c : goal.After-from) → IsChosen c
chosen c =
    let in_range : c.args.j < length c.args.range.now.low = omega (arith, c.requires.within.same_length, c.requires.limited.small.cost_each, c.requires.quantity) in
    elim c.if-reduced_cost-ge0.branch [
      | then-reduced_cost-ge0 w ↦
          let end_is : c.from.result ≡ at c.args.range.now.low c.args.j = omega (arith, ints, c.from.ensures, w.end-is, ap (λ l. at l c.args.j) w.low.ensures.value) in
          let reduced_cost : pos 0 ≤ℤ reduced_cost_of c.args.system.now c.args.mult.now c.args.j = omega (arith, ints, w.if-reduced_cost-ge0.true, c.reduced_cost-reduced_cost.ensures) in
          record {
            ordered = w.low.ensures.ordered;
            small = omega (arith, ap unsigned_abs end_is, size_low c.args.system.now c.args.range.now c.args.j c.requires.limited c.requires.within w.low.ensures.ordered c.requires.quantity);
            least = least_is_low (reduced_cost_of c.args.system.now c.args.mult.now c.args.j) c.reduced_cost-reduced_cost.result c.from.result (at c.args.range.now.low c.args.j) (at c.args.range.now.high c.args.j) c.reduced_cost-reduced_cost.ensures end_is reduced_cost (w.low.ensures.ordered.rising c.args.j in_range);
          }
      | else-reduced_cost-ge0 w ↦
          let end_is : c.from.result ≡ at c.args.range.now.high c.args.j = omega (arith, ints, c.from.ensures, w.end-is, ap (λ l. at l c.args.j) w.high.ensures.value) in
          let reduced_cost : reduced_cost_of c.args.system.now c.args.mult.now c.args.j <ℤ pos 0 = omega (arith, ints, w.if-reduced_cost-ge0.false, c.reduced_cost-reduced_cost.ensures) in
          record {
            ordered = w.high.ensures.ordered;
            small = omega (arith, ap unsigned_abs end_is, size_top c.args.system.now c.args.range.now c.args.j c.requires.limited c.requires.within w.high.ensures.ordered c.requires.quantity);
            least = least_is_high (reduced_cost_of c.args.system.now c.args.mult.now c.args.j) c.reduced_cost-reduced_cost.result c.from.result (at c.args.range.now.low c.args.j) (at c.args.range.now.high c.args.j) c.reduced_cost-reduced_cost.ensures end_is reduced_cost (w.high.ensures.ordered.rising c.args.j in_range);
          }
    ]

fits : (c : goal.After-from) → FitsSigned w128 (c.reduced_cost-reduced_cost.result *ℤ c.from.result)
fits c =
    let chosen : IsChosen c = chosen c in
    fits_signed_from_abs w128 (c.reduced_cost-reduced_cost.result *ℤ c.from.result)
    (omega (arith, size_end c.args.system.now c.args.mult.now c.args.j c.from.result c.requires.limited c.requires.proper c.requires.quantity chosen.small, column_short c.args.system.now c.args.j c.requires.limited c.requires.quantity, ap (λ n. unsigned_abs (n *ℤ c.from.result)) c.reduced_cost-reduced_cost.ensures))

times_is : (a b : ℤ) → FitsSigned w128 a → FitsSigned w128 b → to_z w128 (of_z w128 a) *ℤ to_z w128 (of_z w128 b) ≡ a *ℤ b
times_is a b f g = rw (to_z-of_z w128 a f, to_z-of_z w128 b g) refl

pub overflow_mul-result : goal.overflow_mul-result
overflow_mul-result c =
    rw (times_is c.reduced_cost-reduced_cost.result c.from.result (record { sfits = c.reduced_cost-reduced_cost.type_inv }) (record { sfits = c.from.type_inv })) (fits c)

pub returns-clause-value : goal.returns-clause-value
returns-clause-value c =
    rw (times_is c.reduced_cost-reduced_cost.result c.from.result (record { sfits = c.reduced_cost-reduced_cost.type_inv }) (record { sfits = c.from.type_inv }))
    (to_z-of_z w128 (c.reduced_cost-reduced_cost.result *ℤ c.from.result) (fits c) ∙ (chosen c).least)

pub returns-clause-ordered : goal.returns-clause-ordered
returns-clause-ordered c = (chosen c).ordered
