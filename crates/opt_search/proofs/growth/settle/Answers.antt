use Rattle.std.proofs.Common.{sym, subst}
use Rattle.opt_system.specs.Ranges.{Range, LiesIn}
use Rattle.opt_search.specs.State.{best_value}
use Rattle.opt_search.proofs.SettleSteps.{sound_settle, weighed_falls, falls_twice}
use Rattle.opt_search.proofs.BoxSteps.{IsSettling, box_inside, keeps_twice, fit_of, settles_box}
use Rattle.opt_search.proofs.growth.settle.Goals as goal

pub candidate-requires : goal.candidate-requires
candidate-requires g c =
    subst (λ (b : Range). LiesIn c.args.task.now.system.now.root b) (sym c.requires.own_box) (box_inside _ _ _ _ c.requires.sound c.requires.leaf)

pub leaf_line-requires-clause-inside : goal.leaf_line-requires-clause-inside
leaf_line-requires-clause-inside g c =
    subst (λ (b : Range). LiesIn c.args.task.now.system.now.root b) (sym c.requires.own_box) (box_inside _ _ _ _ c.requires.sound c.requires.leaf)

pub leaf_at-leaf-requires-clause-within : goal.leaf_at-leaf-requires-clause-within
leaf_at-leaf-requires-clause-within g c =
    subst (λ (b : Range). LiesIn c.args.task.now.system.now.root b) (sym c.requires.own_box) (box_inside _ _ _ _ c.requires.sound c.requires.leaf)

pub returns-clause-sound : goal.returns-clause-sound
returns-clause-sound g c =
    let settling : IsSettling (g.G.Guide.may_weigh c.args.guide.now) (g.G.Guide.may_try c.args.guide.now) c.args.task.now.system.now c.args.task.now.gap c.args.state.now c.leaf_line.new.state c.args.node c.args.range.now c.args.mult c.in_ok-mult.mult = record {
      kept = keeps_twice _ _ _ c.weigh.ensures.same c.in_ok-mult.ensures.kept;
      falls = falls_twice (best_value c.args.state.now.best) (best_value c.weigh.new.self.best) (best_value c.leaf_line.new.state.best) c.weigh.ensures.falls c.in_ok-mult.ensures.falls;
      count = c.requires.next;
      is_leaf = c.requires.leaf;
      own_box = c.requires.own_box;
      is_line = c.requires.line;
      closing = c.in_ok-mult.ensures.line;
      root = c.requires.root;
      weighed = record {
        candidate = c.in_ok-candidate.candidate;
        answered = c.in_ok-candidate.ensures.allowed;
        weighed = weighed_falls c.args.task.now.system.now (best_value c.weigh.new.self.best) (best_value c.leaf_line.new.state.best) c.in_ok-candidate.candidate c.in_ok-mult.ensures.falls c.weigh.ensures.weighed;
      };
    } in
    sound_settle _ _ _ _ _ _ _ c.in_ok-mult.ensures.sound c.in_ok-settle.ensures (fit_of _ _ _ _ _ _ _ _ _ _ _ settling c.q-q.ensures.proper c.leaf_at-leaf.ensures.value)

pub returns-clause-settled : goal.returns-clause-settled
returns-clause-settled g c =
    let settling : IsSettling (g.G.Guide.may_weigh c.args.guide.now) (g.G.Guide.may_try c.args.guide.now) c.args.task.now.system.now c.args.task.now.gap c.args.state.now c.leaf_line.new.state c.args.node c.args.range.now c.args.mult c.in_ok-mult.mult = record {
      kept = keeps_twice _ _ _ c.weigh.ensures.same c.in_ok-mult.ensures.kept;
      falls = falls_twice (best_value c.args.state.now.best) (best_value c.weigh.new.self.best) (best_value c.leaf_line.new.state.best) c.weigh.ensures.falls c.in_ok-mult.ensures.falls;
      count = c.requires.next;
      is_leaf = c.requires.leaf;
      own_box = c.requires.own_box;
      is_line = c.requires.line;
      closing = c.in_ok-mult.ensures.line;
      root = c.requires.root;
      weighed = record {
        candidate = c.in_ok-candidate.candidate;
        answered = c.in_ok-candidate.ensures.allowed;
        weighed = weighed_falls c.args.task.now.system.now (best_value c.weigh.new.self.best) (best_value c.leaf_line.new.state.best) c.in_ok-candidate.candidate c.in_ok-mult.ensures.falls c.weigh.ensures.weighed;
      };
    } in
    settles_box _ _ _ _ _ _ _ _ _ _ _ _ settling c.in_ok-settle.ensures
