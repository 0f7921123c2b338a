use Rattle.std.proofs.Common.{◌≡◌, FitsSigned, ap, rules}
use Rattle.std.proofs.lemmas.Int.{to_z-of_z}
use mir.Syntax.{w128}
use Rattle.opt_frac.specs.Equations.{Equation}
use Rattle.opt_frac.proofs.equation.Equation.eliminate.Goals as goal

pub invariant_of-result : goal.invariant_of-result
invariant_of-result c =
    let lead : FitsSigned w128 c.in_ok-lead.lead = search rules in
    let basic : c.self.inside.basic ≡ c.args.self.now.basic = ap (λ (e : Equation). e.basic) c.self.view_is in
    rw (to_z-of_z w128 c.in_ok-lead.lead lead, basic) c.in_ok-lead.ensures.made.reduced

pub returns-clause-same_values : goal.returns-clause-same_values
returns-clause-same_values c =
    let lead : FitsSigned w128 c.in_ok-lead.lead = search rules in
    let basic : c.self.inside.basic ≡ c.args.self.now.basic = ap (λ (e : Equation). e.basic) c.self.view_is in
    rw (to_z-of_z w128 c.in_ok-lead.lead lead, basic) c.in_ok-lead.ensures.made.same_values
