use Rattle.std.proofs.lemmas.Result.{on_ok_weaker}
use Rattle.std.proofs.Common.{subst}
use Rattle.opt_system.specs.Ranges.{Range}
use Rattle.opt_tree.specs.Nodes.{box_of}
use Rattle.opt_search.specs.State.{SettlesBox}
use Rattle.opt_search.proofs.GuideSteps.{allows_back, line_before, settles_before}
use Rattle.opt_search.proofs.growth.settle_child.Goals as goal

pub settle-requires-clause-line : goal.settle-requires-clause-line
settle-requires-clause-line g c =
    line_before (g.G.Guide.may_weigh c.line.new.guide) (g.G.Guide.may_weigh c.args.guide.now) _ _ _ _ c.args.task.now.system.now c.in_ok-range.range c.in_ok-mult.mult
    (allows_back _ _ _ _ _ _ c.in_ok-mult.ensures.same) c.in_ok-mult.ensures.line

pub returns-clause-settled : goal.returns-clause-settled
returns-clause-settled g c =
    let before : SettlesBox (g.G.Guide.may_weigh c.line.new.guide) (g.G.Guide.may_try c.line.new.guide) c.args.task.now.system.now c.args.state.now c.settle.new.state c.args.node c.in_ok-range.range → SettlesBox (g.G.Guide.may_weigh c.args.guide.now) (g.G.Guide.may_try c.args.guide.now) c.args.task.now.system.now c.args.state.now c.settle.new.state c.args.node (box_of c.args.state.now.tree c.args.node) =
    λ h.
    subst (λ (b : Range). SettlesBox (g.G.Guide.may_weigh c.args.guide.now) (g.G.Guide.may_try c.args.guide.now) c.args.task.now.system.now c.args.state.now c.settle.new.state c.args.node b) c.in_ok-range.ensures.value
    (settles_before (g.G.Guide.may_weigh c.args.guide.now) (g.G.Guide.may_weigh c.line.new.guide) (g.G.Guide.may_try c.args.guide.now) (g.G.Guide.may_try c.line.new.guide) (g.G.Guide.may_cut c.args.guide.now) (g.G.Guide.may_cut c.line.new.guide) c.args.task.now.system.now c.args.state.now c.settle.new.state c.args.node c.in_ok-range.range c.in_ok-mult.ensures.same h)
    in
    on_ok_weaker c.settle.result before c.settle.ensures.settled
