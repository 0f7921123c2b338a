use Rattle.std.proofs.Common.{◌≡◌, FitsSigned, ap, rules}
use Rattle.std.proofs.lemmas.Int.{to_z-of_z}
use mir.Syntax.{w128}
use Rattle.opt_frac.specs.Equations.{Equation}
use Rattle.opt_frac.proofs.equation.Equation.eliminate_in_place.Goals as goal

pub invariant_of-self : goal.invariant_of-self
invariant_of-self c =
    let lead : FitsSigned w128 c.in_ok-lead.lead = search rules in
    let basic : c.self.inside.basic ≡ c.args.self.now.basic = ap (λ (e : Equation). e.basic) c.self.view_is in
    rw (to_z-of_z w128 c.in_ok-lead.lead lead, basic, c.swap.ensures.x_after) c.in_ok-lead.ensures.made.reduced
