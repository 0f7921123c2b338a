use Rattle.std.proofs.Common.{◌≡◌, Some, FitsSigned, refl, ap, ◌∙◌, true, rules}
use Rattle.std.proofs.lemmas.Int.{to_z-of_z}
use Rattle.std.proofs.lemmas.Result.{err_from_is_err_and}
use mir.Syntax.{w128}
use mir.Val.{to_z, of_z}
use Rattle.opt_frac.specs.Divisors.{fits}
use Rattle.opt_frac.specs.Equations.{Equation, lowest}
use Rattle.opt_frac.specs.Elimination.{elimination}
use Rattle.opt_frac.specs.Merging.{sums_fit}
use Rattle.opt_frac.specs.Replacing.{own_terms, other_terms}
use Rattle.opt_frac.proofs.Laws.{IsMade-elimination}
use Rattle.opt_frac.proofs.ReducedLemmas.{sum_of, elimination-fitting, elimination-wide_lead, elimination-wide_sums}
use Rattle.opt_frac.proofs.WritesLemmas.{Writes-fault, IsProduct-fault}
use Rattle.opt_frac.proofs.equation.replace.Goals as goal
use Rattle.opt_frac.proofs.equation.replace.Goals.{After-reduce}

pub returns-in_err-lead-clause-replaced : goal.returns-in_err-lead-clause-replaced
returns-in_err-lead-clause-replaced c =
    let fault = err_from_is_err_and c.from_residual.result c.from_residual.ensures.1 in
    rw (fault.1, fault.2)
    (IsProduct-fault c.in_err-lead.field-0.0 (sum_of c.args.turned.now c.args.old.now).lead _ _ _ (elimination-wide_lead c.args.turned.now c.args.old.now)
    (rw c.factors_for.ensures.own at c.in_err-lead.ensures.product))

pub returns-in_err-add_terms-clause-replaced : goal.returns-in_err-add_terms-clause-replaced
returns-in_err-add_terms-clause-replaced c =
    let fault = err_from_is_err_and c.from_residual-in_err-add_terms.result c.from_residual-in_err-add_terms.ensures.1 in
    rw (fault.1, fault.2)
    (Writes-fault (Unit {0}) c.in_err-add_terms.field-0.0 (sums_fit (own_terms c.args.turned.now c.args.old.now) (other_terms c.args.turned.now c.args.old.now)) _ _ _ _ _ _ (elimination-wide_sums c.args.turned.now c.args.old.now)
    c.in_err-add_terms.ensures)

-- the equation that is made
abbrev divided_sum : After-reduce → Equation
divided_sum c = record { basic = c.args.old.now.basic; lead = to_z w128 (of_z w128 c.reduce.result); terms = c.reduce.new.terms.items }

made : (c : After-reduce) → lowest (sum_of c.args.turned.now c.args.old.now) ≡ divided_sum c
unfolding lowest
made c =
    let lead_is : c.in_ok-lead.lead ≡ (sum_of c.args.turned.now c.args.old.now).lead = rw c.factors_for.ensures.own at c.in_ok-lead.ensures.product.1 in
    let lead : FitsSigned w128 c.in_ok-lead.lead = search rules in
    let first = rw (to_z-of_z w128 c.in_ok-lead.lead lead, lead_is, c.in_ok-add_terms.ensures.1) at c.reduce.ensures.lead in
    let second = rw (to_z-of_z w128 c.in_ok-lead.lead lead, lead_is, c.in_ok-add_terms.ensures.1) at c.reduce.ensures.terms in
    rw (to_z-of_z w128 c.reduce.result (record { sfits = c.reduce.type_inv }), first, second) refl

exact : (c : After-reduce) → elimination c.args.turned.now c.args.old.now ≡ Some (divided_sum c)
exact c =
    let lead : fits (sum_of c.args.turned.now c.args.old.now).lead ≡ true = rw c.factors_for.ensures.own at c.in_ok-lead.ensures.product.0 in
    elimination-fitting c.args.turned.now c.args.old.now lead c.in_ok-add_terms.ensures.0 ∙ ap Some (made c)

pub returns-clause-replaced : goal.returns-clause-replaced
returns-clause-replaced c = exact (goal.at.returns-clause-replaced c).After-reduce

pub returns-clause-made : goal.returns-clause-made
returns-clause-made c =
    IsMade-elimination c.args.turned.now c.args.old.now (divided_sum c) c.factors_for.ensures.turned_reduced c.factors_for.ensures.old_reduced c.requires.term c.requires.apart (exact c)
