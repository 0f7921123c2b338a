use Rattle.std.proofs.Common.{◌≡◌, ℤ, to_z, of_z, ap, ◌∙◌, arith}
use Rattle.std.specs.Prelude.{IfOk}
use mir.Syntax.{w64}
use Rattle.std.proofs.lemmas.Int.{ints}
use Rattle.opt_model.specs.Settings.{Settings}
use Rattle.opt_model.specs.Tables.{Tables}
use Rattle.opt_search.specs.Outcomes.{FollowsGuide}
use Rattle.opt_plan.proofs.OwnQuestion.{at_own, outcome_is}
use Rattle.opt_plan.proofs.problem.Problem.plan.Goals as goal

pub returns-clause-outcome : goal.returns-clause-outcome
returns-clause-outcome g c =
    let t : Tables = c.args.self.now in
    let gap : ℤ = to_z w64 (of_z w64 c.gap-gap.result) in
    let cast : to_z w64 (of_z w64 c.gap-gap.result) ≡ c.gap-gap.result = omega (arith, ints) in
    let same_gap : to_z w64 (of_z w64 c.gap-gap.result) ≡ t.settings.gap =
    cast ∙ (c.gap-gap.ensures ∙ (ap (λ (s : Settings). s.gap) c.settings.ensures.value ∙ ap (λ (m : Tables). m.settings.gap) c.tables.ensures)) in
    outcome_is t c.system.result.now (to_z w64 (of_z w64 c.gap-gap.result)) c.system.ensures.system same_gap c.node_limit.result c.plan_system.result c.node_limit.ensures.exact
    c.plan_system.ensures.true_verdict c.plan_system.ensures.proved

pub returns-clause-guided : goal.returns-clause-guided
returns-clause-guided g c =
    let t : Tables = c.args.self.now in
    let cast : to_z w64 (of_z w64 c.gap-gap.result) ≡ c.gap-gap.result = omega (arith, ints) in
    let same_gap : to_z w64 (of_z w64 c.gap-gap.result) ≡ t.settings.gap =
    cast ∙ (c.gap-gap.ensures ∙ (ap (λ (s : Settings). s.gap) c.settings.ensures.value ∙ ap (λ (m : Tables). m.settings.gap) c.tables.ensures)) in
    at_own t c.system.result.now (to_z w64 (of_z w64 c.gap-gap.result)) c.system.ensures.system same_gap
    (λ s z. IfOk c.plan_system.result (FollowsGuide (g.G.Guide.may_weigh c.args.guide.now) (g.G.Guide.may_try c.args.guide.now) (g.G.Guide.may_cut c.args.guide.now) s z))
    c.plan_system.ensures.guided
