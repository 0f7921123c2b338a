use Rattle.std.proofs.Common.{◌≡◌, ◌++◌, [], ◌∷◌, ℤ, List, sym, ap, ◌∙◌, subst, FitsSigned, to_z, of_z, rules, arith}
use Rattle.std.proofs.lemmas.Int.{to_z-of_z}
use mir.Syntax.{w64}
use Rattle.opt_system.specs.Systems.{AreSmallCosts}
use Rattle.opt_rows.specs.Costs.{unit_cost}
use Rattle.opt_rows.specs.Systems.{costs_of}
use Rattle.opt_rows.proofs.CostSizes.{costs_more, costs_all, layout_costs_small}
use Rattle.opt_rows.proofs.costs.goal_costs.Goals as goal

pub loop-i-preserved : goal.loop-i-preserved
loop-i-preserved c =
    let fits : FitsSigned w64 c.unit_cost.result = search rules in
    let e : to_z w64 (of_z w64 c.unit_cost.result) ≡ c.unit_cost.result = simp to_z-of_z in
    c.in_ok-push.ensures.items
    ∙ (ap (λ (z : ℤ). c.loop-i.costs.items ++ z ∷ []) (e ∙ c.unit_cost.ensures)
    ∙ costs_more (unit_cost c.args.tables.now c.args.goal) c.args.layout.now.quantities c.loop-i.costs.items c.loop-i.i c.quantity.result c.loop-i.invariant c.quantity.ensures.value)

pub returns-clause-costs : goal.returns-clause-costs
returns-clause-costs c =
    costs_all c.args.tables.now c.args.goal c.args.layout.now c.loop-i.costs.items c.loop-i.i c.requires
    (omega (arith, c.loop-i-test.false, c.loop-i.auto.i-end, c.len-i-end.ensures.value)) c.loop-i.invariant

pub returns-clause-small : goal.returns-clause-small
returns-clause-small c =
    let all : c.loop-i.costs.items ≡ costs_of c.args.tables.now c.args.goal = returns-clause-costs c in
    subst (λ (costs : List ℤ). AreSmallCosts costs c.args.layout.now.highs) (sym all)
    (layout_costs_small c.args.tables.now c.args.goal c.args.layout.now c.settings-settings.ensures.model c.requires c.len-i-end.ensures.numbering)
