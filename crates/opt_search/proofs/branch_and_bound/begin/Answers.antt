use Rattle.std.proofs.Common.{◌≡◌, sym, ◌∙◌, subst}
use Rattle.opt_system.specs.Ranges.{Range}
use Rattle.opt_bound.specs.Multipliers.{Multipliers}
use Rattle.opt_search.specs.Guided.{IsLine}
use Rattle.opt_search.specs.State.{SettlesBox}
use Rattle.opt_search.proofs.FirstSteps.{led_first}
use Rattle.opt_search.proofs.GuideSteps.{allows_back, line_before, settles_before}
use Rattle.opt_search.proofs.branch_and_bound.begin.Goals as goal

pub settle-requires-clause-line : goal.settle-requires-clause-line
settle-requires-clause-line g c =
    line_before (g.G.Guide.may_weigh c.line.new.guide) (g.G.Guide.may_weigh c.args.guide.now) _ _ _ _ c.args.task.now.system.now c.root-range.result.now c.in_ok-mult.mult
    (allows_back _ _ _ _ _ _ c.in_ok-mult.ensures.same) c.in_ok-mult.ensures.line

pub returns-clause-led : goal.returns-clause-led
returns-clause-led g c =
    let root_is : c.in_ok-state.state.root ≡ c.in_ok-mult.mult = c.in_ok-state.ensures.root ∙ c.in_ok-root.ensures in
    let line : IsLine (g.G.Guide.may_weigh c.args.guide.now) c.args.task.now.system.now c.args.task.now.system.now.root c.in_ok-mult.mult = subst (λ (b : Range). IsLine (g.G.Guide.may_weigh c.args.guide.now) c.args.task.now.system.now b c.in_ok-mult.mult) c.root-range.ensures c.in_ok-mult.ensures.line in
    led_first (g.G.Guide.may_weigh c.args.guide.now) (g.G.Guide.may_try c.args.guide.now) (g.G.Guide.may_cut c.args.guide.now) c.args.task.now.system.now c.args.task.now.gap c.in_ok-state.state c.settle.new.state c.in_ok-state.ensures.first
    (subst (λ (k : Multipliers). IsLine (g.G.Guide.may_weigh c.args.guide.now) c.args.task.now.system.now c.args.task.now.system.now.root k) (sym root_is) line)
    (settles_before (g.G.Guide.may_weigh c.args.guide.now) (g.G.Guide.may_weigh c.line.new.guide) (g.G.Guide.may_try c.args.guide.now) (g.G.Guide.may_try c.line.new.guide) (g.G.Guide.may_cut c.args.guide.now) (g.G.Guide.may_cut c.line.new.guide) c.args.task.now.system.now c.in_ok-state.state c.settle.new.state 0 c.args.task.now.system.now.root c.in_ok-mult.ensures.same
    (subst (λ (b : Range). SettlesBox (g.G.Guide.may_weigh c.line.new.guide) (g.G.Guide.may_try c.line.new.guide) c.args.task.now.system.now c.in_ok-state.state c.settle.new.state 0 b) c.root-range.ensures c.in_ok-settle.ensures.settled))
