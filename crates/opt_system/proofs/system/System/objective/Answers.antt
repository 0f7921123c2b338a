use Rattle.std.proofs.Common.{◌≡◌, ◌^◌, pos, ◌≤ℤ◌, ◌*ℤ◌, length, ap, ◌∙◌, arith}
use Rattle.std.proofs.lemmas.Int.{ints}
use Rattle.opt_sums.specs.Sums.{at, sum_to}
use Rattle.opt_system.specs.Systems.{System, IsLimited, value as value_of}
use Rattle.opt_system.proofs.LimitLemmas.{value_from_zero, value_small}
use Rattle.opt_system.proofs.system.System.objective.Goals as goal

limited : (c : goal.After-sum_of_products) → IsLimited c.args.self.now
limited c = rw (← c.self.view_is) c.self.invariant.limited

value : (c : goal.After-sum_of_products) → c.sum_of_products.result ≡ value_of c.args.self.now c.args.x.now
value c =
    c.sum_of_products.ensures
    ∙ ap (λ costs. sum_to (length costs) (λ j. at costs j *ℤ at c.args.x.now j)) (c.deref.ensures.value ∙ ap (λ (p : System). p.cost) c.self.view_is)

pub returns-clause-from_zero : goal.returns-clause-from_zero
returns-clause-from_zero c =
    let from : pos 0 ≤ℤ value_of c.args.self.now c.args.x.now = value_from_zero c.args.self.now c.args.x.now (limited c) c.requires in
    omega (arith, ints, value c)

pub returns-clause-small : goal.returns-clause-small
returns-clause-small c =
    let small : value_of c.args.self.now c.args.x.now ≤ℤ pos (2 ^ 126) = value_small c.args.self.now c.args.x.now (limited c) c.requires in
    omega (arith, ints, value c)
