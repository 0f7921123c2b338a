use Rattle.std.proofs.Common.{◌≡◌, ◌+◌, ◌≤◌, take, subst, sym, arith}
use Rattle.std.proofs.lemmas.Result.{on_ok_weaker}
use Rattle.opt_frac.specs.Merging.{term_at}
use Rattle.opt_simplex.specs.Columns.{Follow}
use Rattle.opt_simplex.proofs.ColumnSteps.{IsOnTheWay, way-start, way-drop, way-add, way-both, way-end}
use Rattle.opt_simplex.proofs.columns.Columns.change.Goals as goal

pub loop-x-init : goal.loop-x-init
loop-x-init c = way-start c.args.position c.args.olds.now c.args.news.now c.args.self.now

pub loop-x-preserved-then-old-new : goal.loop-x-preserved-then-old-new
loop-x-preserved-then-old-new c =
    subst (λ now. IsOnTheWay c.args.position c.args.olds.now c.args.news.now c.args.self.now now (c.loop-x.x + 1) c.loop-x.y) (sym c.remove.ensures)
    (way-drop c.args.position c.args.olds.now c.args.news.now c.args.self.now c.loop-x.self c.loop-x.x c.loop-x.y c.requires.olds_rising c.requires.news_rising c.requires.olds_no_zero c.requires.news_no_zero c.loop-x.invariant c.loop-x-test.true)

pub loop-x-preserved-then-new-old : goal.loop-x-preserved-then-new-old
loop-x-preserved-then-new-old c =
    subst (λ now. IsOnTheWay c.args.position c.args.olds.now c.args.news.now c.args.self.now now c.loop-x.x (c.loop-x.y + 1)) (sym c.in_ok-add.ensures)
    (way-add c.args.position c.args.olds.now c.args.news.now c.args.self.now c.loop-x.self c.loop-x.x c.loop-x.y c.requires.olds_rising c.requires.news_rising c.requires.olds_no_zero c.requires.news_no_zero c.loop-x.invariant c.loop-x-test.true c.if-y-news.true c.if-new-old.true)

pub loop-x-preserved : goal.loop-x-preserved
loop-x-preserved c =
    let above : (term_at c.args.news.now c.loop-x.y).0 ≤ (term_at c.args.olds.now c.loop-x.x).0 = omega (arith, c.if-old-new.false) in
    let below : (term_at c.args.olds.now c.loop-x.x).0 ≤ (term_at c.args.news.now c.loop-x.y).0 = omega (arith, c.if-new-old.false) in
    way-both c.args.position c.args.olds.now c.args.news.now c.args.self.now c.loop-x.self c.loop-x.x c.loop-x.y c.requires.olds_rising c.requires.news_rising c.requires.olds_no_zero c.requires.news_no_zero c.loop-x.invariant c.loop-x-test.true c.if-y-news.true (omega arith)

pub returns : goal.returns
returns c =
    on_ok_weaker c.add_rest.result
    (λ f. way-end c.args.position c.args.olds.now c.args.news.now c.args.self.now c.loop-x.self c.loop-x.x c.loop-x.y c.requires.olds_rising c.requires.news_rising c.requires.olds_no_zero c.requires.news_no_zero c.loop-x.invariant c.remove_rest.new.self c.add_rest.new.self
    (c.remove_rest.ensures (take c.loop-x.y c.args.news.now) c.loop-x.invariant.apart) f)
    c.add_rest.ensures
