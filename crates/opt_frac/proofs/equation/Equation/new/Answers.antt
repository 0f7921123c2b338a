use Rattle.std.proofs.Common.{◌≡◌, int_div, pos, unsigned_abs, FitsSigned, refl}
use Rattle.std.proofs.lemmas.Int.{to_z-of_z}
use mir.Syntax.{w128}
use mir.Val.{to_z, of_z}
use Rattle.opt_frac.specs.Divisors.{quotients, gcd_with}
use Rattle.opt_frac.specs.Equations.{Equation, lowest}
use Rattle.opt_frac.proofs.ReducedLemmas.{reduced-lowest}
use Rattle.opt_frac.proofs.equation.Equation.new.Goals as goal
use Rattle.opt_frac.proofs.equation.Equation.new.Goals.{After-reduce-lead}

-- what is divided
abbrev given : After-reduce-lead → Equation
given c = record { basic = c.args.basic; lead = c.args.lead; terms = c.args.terms.now }

-- what is made
abbrev divided_one : After-reduce-lead → Equation
divided_one c = record { basic = c.args.basic; lead = to_z w128 (of_z w128 c.reduce-lead.result); terms = c.reduce-lead.new.terms.items }

made : (c : After-reduce-lead) → divided_one c ≡ lowest (given c)
unfolding lowest
made c =
    let lead : FitsSigned w128 c.args.lead = c.ranges.lead in
    let first : c.reduce-lead.result ≡ int_div c.args.lead (pos (gcd_with (unsigned_abs c.args.lead) c.args.terms.now)) =
    rw (to_z-of_z w128 c.args.lead lead, c.in_ok-terms.ensures.items) at c.reduce-lead.ensures.lead
    in
    let second : c.reduce-lead.new.terms.items ≡ quotients (gcd_with (unsigned_abs c.args.lead) c.args.terms.now) c.args.terms.now =
    rw (to_z-of_z w128 c.args.lead lead, c.in_ok-terms.ensures.items) at c.reduce-lead.ensures.terms
    in
    rw (to_z-of_z w128 c.reduce-lead.result (record { sfits = c.reduce-lead.type_inv }), first, second) refl

pub invariant_of-result : goal.invariant_of-result
invariant_of-result c = rw (made c) (reduced-lowest (given c) c.requires)

pub returns : goal.returns
returns c = made (goal.at.returns c).After-reduce-lead
