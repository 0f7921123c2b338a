use Rattle.std.proofs.Common.{ℕ, ◌+◌, length, subst}
use Rattle.std.proofs.lemmas.Result.{on_ok_weaker}
use Rattle.opt_tree.specs.Nodes.{box_of}
use Rattle.opt_guide.specs.Relations.{AllowsSame}
use Rattle.opt_search.specs.State.{SettlesBox}
use Rattle.opt_search.proofs.BoxSteps.{box_inside}
use Rattle.opt_search.proofs.SplitSteps.{IsParting, open_several, sound_split}
use Rattle.opt_search.proofs.GrowSteps.{IsGrowing, grown_count, grown_complete, grown_led}
use Rattle.opt_search.proofs.GuideSteps.{allows_twice, settles_before, cut_before}
use Rattle.opt_search.proofs.growth.grow.Goals as goal

pub cut_leaf-requires-clause-leaf : goal.cut_leaf-requires-clause-leaf
cut_leaf-requires-clause-leaf g c = ((c.requires.sound.open_are c.pick-leaf.result.0 c.pick-leaf.result.1).0 c.pick-leaf.ensures.is_open).leaf.leaf

pub cut_leaf-requires-clause-inside : goal.cut_leaf-requires-clause-inside
cut_leaf-requires-clause-inside g c = box_inside _ _ _ _ c.requires.sound ((c.requires.sound.open_are c.pick-leaf.result.0 c.pick-leaf.result.1).0 c.pick-leaf.ensures.is_open).leaf.leaf

pub cut_leaf-requires-clause-several : goal.cut_leaf-requires-clause-several
cut_leaf-requires-clause-several g c = open_several _ _ _ _ _ c.requires.sound ((c.requires.sound.open_are c.pick-leaf.result.0 c.pick-leaf.result.1).0 c.pick-leaf.ensures.is_open)

pub split-requires-clause-leaf : goal.split-requires-clause-leaf
split-requires-clause-leaf g c = ((c.requires.sound.open_are c.pick-leaf.result.0 c.pick-leaf.result.1).0 c.pick-leaf.ensures.is_open).leaf.leaf

pub settle_child-requires-clause-sound : goal.settle_child-requires-clause-sound
settle_child-requires-clause-sound g c =
    let parting : IsParting c.args.task.now.system.now c.args.task.now.gap c.args.state.now c.split.new.state c.pick-leaf.result.0 c.pick-leaf.result.1 c.in_ok-cut.cut.0 c.in_ok-cut.cut.1 = record {
      sound = c.requires.sound;
      complete = c.requires.complete;
      was_open = c.pick-leaf.ensures.is_open;
      cut = c.in_ok-cut.ensures.cut;
      room = c.requires.room;
      splits = c.in_ok-left.ensures.split;
    } in
    sound_split c.args.task.now.system.now c.args.task.now.gap c.args.state.now c.split.new.state c.pick-leaf.result.0 c.pick-leaf.result.1 c.in_ok-cut.cut.0 c.in_ok-cut.cut.1 parting

pub returns-clause-complete : goal.returns-clause-complete
returns-clause-complete g c =
    let parting : IsParting c.args.task.now.system.now c.args.task.now.gap c.args.state.now c.split.new.state c.pick-leaf.result.0 c.pick-leaf.result.1 c.in_ok-cut.cut.0 c.in_ok-cut.cut.1 = record {
      sound = c.requires.sound;
      complete = c.requires.complete;
      was_open = c.pick-leaf.ensures.is_open;
      cut = c.in_ok-cut.ensures.cut;
      room = c.requires.room;
      splits = c.in_ok-left.ensures.split;
    } in
    let same : AllowsSame (g.G.Guide.may_weigh c.args.guide.now) (g.G.Guide.may_weigh c.cut_leaf.new.guide) (g.G.Guide.may_try c.args.guide.now) (g.G.Guide.may_try c.cut_leaf.new.guide) (g.G.Guide.may_cut c.args.guide.now) (g.G.Guide.may_cut c.cut_leaf.new.guide) = allows_twice _ _ _ _ _ _ _ _ _ c.pick-leaf.ensures.same c.cut_leaf.ensures.same in
    let same_on : AllowsSame (g.G.Guide.may_weigh c.args.guide.now) (g.G.Guide.may_weigh c.settle_child.new.guide) (g.G.Guide.may_try c.args.guide.now) (g.G.Guide.may_try c.settle_child.new.guide) (g.G.Guide.may_cut c.args.guide.now) (g.G.Guide.may_cut c.settle_child.new.guide) = allows_twice _ _ _ _ _ _ _ _ _ same c.settle_child.ensures.same in
    let left : SettlesBox (g.G.Guide.may_weigh c.args.guide.now) (g.G.Guide.may_try c.args.guide.now) c.args.task.now.system.now c.split.new.state c.settle_child.new.state (length c.args.state.now.tree.nodes) (box_of c.split.new.state.tree (length c.args.state.now.tree.nodes)) =
    subst (λ (k : ℕ). SettlesBox (g.G.Guide.may_weigh c.args.guide.now) (g.G.Guide.may_try c.args.guide.now) c.args.task.now.system.now c.split.new.state c.settle_child.new.state k (box_of c.split.new.state.tree k)) c.in_ok-left.ensures.left
    (settles_before (g.G.Guide.may_weigh c.args.guide.now) (g.G.Guide.may_weigh c.cut_leaf.new.guide) (g.G.Guide.may_try c.args.guide.now) (g.G.Guide.may_try c.cut_leaf.new.guide) (g.G.Guide.may_cut c.args.guide.now) (g.G.Guide.may_cut c.cut_leaf.new.guide) c.args.task.now.system.now c.split.new.state c.settle_child.new.state c.in_ok-left.left (box_of c.split.new.state.tree c.in_ok-left.left) same c.in_ok-settle_child.ensures.settled)
    in
    let growing : IsGrowing (g.G.Guide.may_weigh c.args.guide.now) (g.G.Guide.may_try c.args.guide.now) c.args.task.now.system.now c.args.task.now.gap c.args.state.now c.split.new.state c.settle_child.new.state c.pick-leaf.result.0 c.pick-leaf.result.1 c.in_ok-cut.cut.0 c.in_ok-cut.cut.1 = record { parting = parting; left = left } in
    let right : SettlesBox (g.G.Guide.may_weigh c.settle_child.new.guide) (g.G.Guide.may_try c.settle_child.new.guide) c.args.task.now.system.now c.settle_child.new.state c.settle_child-2.new.state c.in_ok-left.right (box_of c.settle_child.new.state.tree c.in_ok-left.right) → SettlesBox (g.G.Guide.may_weigh c.args.guide.now) (g.G.Guide.may_try c.args.guide.now) c.args.task.now.system.now c.settle_child.new.state c.settle_child-2.new.state (length c.args.state.now.tree.nodes + 1) (box_of c.settle_child.new.state.tree (length c.args.state.now.tree.nodes + 1)) =
    λ h.
    subst (λ (k : ℕ). SettlesBox (g.G.Guide.may_weigh c.args.guide.now) (g.G.Guide.may_try c.args.guide.now) c.args.task.now.system.now c.settle_child.new.state c.settle_child-2.new.state k (box_of c.settle_child.new.state.tree k)) c.in_ok-left.ensures.right
    (settles_before (g.G.Guide.may_weigh c.args.guide.now) (g.G.Guide.may_weigh c.settle_child.new.guide) (g.G.Guide.may_try c.args.guide.now) (g.G.Guide.may_try c.settle_child.new.guide) (g.G.Guide.may_cut c.args.guide.now) (g.G.Guide.may_cut c.settle_child.new.guide) c.args.task.now.system.now c.settle_child.new.state c.settle_child-2.new.state c.in_ok-left.right (box_of c.settle_child.new.state.tree c.in_ok-left.right) same_on h)
    in
    on_ok_weaker c.settle_child-2.result
    (λ (h : SettlesBox (g.G.Guide.may_weigh c.settle_child.new.guide) (g.G.Guide.may_try c.settle_child.new.guide) c.args.task.now.system.now c.settle_child.new.state c.settle_child-2.new.state c.in_ok-left.right (box_of c.settle_child.new.state.tree c.in_ok-left.right)). grown_complete (g.G.Guide.may_weigh c.args.guide.now) (g.G.Guide.may_try c.args.guide.now) c.args.task.now.system.now c.args.task.now.gap c.args.state.now c.split.new.state c.settle_child.new.state c.settle_child-2.new.state c.pick-leaf.result.0 c.pick-leaf.result.1 c.in_ok-cut.cut.0 c.in_ok-cut.cut.1 growing (right h))
    c.settle_child-2.ensures.settled

pub returns-clause-two_more : goal.returns-clause-two_more
returns-clause-two_more g c =
    let parting : IsParting c.args.task.now.system.now c.args.task.now.gap c.args.state.now c.split.new.state c.pick-leaf.result.0 c.pick-leaf.result.1 c.in_ok-cut.cut.0 c.in_ok-cut.cut.1 = record {
      sound = c.requires.sound;
      complete = c.requires.complete;
      was_open = c.pick-leaf.ensures.is_open;
      cut = c.in_ok-cut.ensures.cut;
      room = c.requires.room;
      splits = c.in_ok-left.ensures.split;
    } in
    let same : AllowsSame (g.G.Guide.may_weigh c.args.guide.now) (g.G.Guide.may_weigh c.cut_leaf.new.guide) (g.G.Guide.may_try c.args.guide.now) (g.G.Guide.may_try c.cut_leaf.new.guide) (g.G.Guide.may_cut c.args.guide.now) (g.G.Guide.may_cut c.cut_leaf.new.guide) = allows_twice _ _ _ _ _ _ _ _ _ c.pick-leaf.ensures.same c.cut_leaf.ensures.same in
    let same_on : AllowsSame (g.G.Guide.may_weigh c.args.guide.now) (g.G.Guide.may_weigh c.settle_child.new.guide) (g.G.Guide.may_try c.args.guide.now) (g.G.Guide.may_try c.settle_child.new.guide) (g.G.Guide.may_cut c.args.guide.now) (g.G.Guide.may_cut c.settle_child.new.guide) = allows_twice _ _ _ _ _ _ _ _ _ same c.settle_child.ensures.same in
    let left : SettlesBox (g.G.Guide.may_weigh c.args.guide.now) (g.G.Guide.may_try c.args.guide.now) c.args.task.now.system.now c.split.new.state c.settle_child.new.state (length c.args.state.now.tree.nodes) (box_of c.split.new.state.tree (length c.args.state.now.tree.nodes)) =
    subst (λ (k : ℕ). SettlesBox (g.G.Guide.may_weigh c.args.guide.now) (g.G.Guide.may_try c.args.guide.now) c.args.task.now.system.now c.split.new.state c.settle_child.new.state k (box_of c.split.new.state.tree k)) c.in_ok-left.ensures.left
    (settles_before (g.G.Guide.may_weigh c.args.guide.now) (g.G.Guide.may_weigh c.cut_leaf.new.guide) (g.G.Guide.may_try c.args.guide.now) (g.G.Guide.may_try c.cut_leaf.new.guide) (g.G.Guide.may_cut c.args.guide.now) (g.G.Guide.may_cut c.cut_leaf.new.guide) c.args.task.now.system.now c.split.new.state c.settle_child.new.state c.in_ok-left.left (box_of c.split.new.state.tree c.in_ok-left.left) same c.in_ok-settle_child.ensures.settled)
    in
    let growing : IsGrowing (g.G.Guide.may_weigh c.args.guide.now) (g.G.Guide.may_try c.args.guide.now) c.args.task.now.system.now c.args.task.now.gap c.args.state.now c.split.new.state c.settle_child.new.state c.pick-leaf.result.0 c.pick-leaf.result.1 c.in_ok-cut.cut.0 c.in_ok-cut.cut.1 = record { parting = parting; left = left } in
    let right : SettlesBox (g.G.Guide.may_weigh c.settle_child.new.guide) (g.G.Guide.may_try c.settle_child.new.guide) c.args.task.now.system.now c.settle_child.new.state c.settle_child-2.new.state c.in_ok-left.right (box_of c.settle_child.new.state.tree c.in_ok-left.right) → SettlesBox (g.G.Guide.may_weigh c.args.guide.now) (g.G.Guide.may_try c.args.guide.now) c.args.task.now.system.now c.settle_child.new.state c.settle_child-2.new.state (length c.args.state.now.tree.nodes + 1) (box_of c.settle_child.new.state.tree (length c.args.state.now.tree.nodes + 1)) =
    λ h.
    subst (λ (k : ℕ). SettlesBox (g.G.Guide.may_weigh c.args.guide.now) (g.G.Guide.may_try c.args.guide.now) c.args.task.now.system.now c.settle_child.new.state c.settle_child-2.new.state k (box_of c.settle_child.new.state.tree k)) c.in_ok-left.ensures.right
    (settles_before (g.G.Guide.may_weigh c.args.guide.now) (g.G.Guide.may_weigh c.settle_child.new.guide) (g.G.Guide.may_try c.args.guide.now) (g.G.Guide.may_try c.settle_child.new.guide) (g.G.Guide.may_cut c.args.guide.now) (g.G.Guide.may_cut c.settle_child.new.guide) c.args.task.now.system.now c.settle_child.new.state c.settle_child-2.new.state c.in_ok-left.right (box_of c.settle_child.new.state.tree c.in_ok-left.right) same_on h)
    in
    on_ok_weaker c.settle_child-2.result
    (λ (h : SettlesBox (g.G.Guide.may_weigh c.settle_child.new.guide) (g.G.Guide.may_try c.settle_child.new.guide) c.args.task.now.system.now c.settle_child.new.state c.settle_child-2.new.state c.in_ok-left.right (box_of c.settle_child.new.state.tree c.in_ok-left.right)). grown_count (g.G.Guide.may_weigh c.args.guide.now) (g.G.Guide.may_try c.args.guide.now) c.args.task.now.system.now c.args.task.now.gap c.args.state.now c.split.new.state c.settle_child.new.state c.settle_child-2.new.state c.pick-leaf.result.0 c.pick-leaf.result.1 c.in_ok-cut.cut.0 c.in_ok-cut.cut.1 growing (right h))
    c.settle_child-2.ensures.settled

pub returns-clause-led : goal.returns-clause-led
returns-clause-led g c =
    let parting : IsParting c.args.task.now.system.now c.args.task.now.gap c.args.state.now c.split.new.state c.pick-leaf.result.0 c.pick-leaf.result.1 c.in_ok-cut.cut.0 c.in_ok-cut.cut.1 = record {
      sound = c.requires.sound;
      complete = c.requires.complete;
      was_open = c.pick-leaf.ensures.is_open;
      cut = c.in_ok-cut.ensures.cut;
      room = c.requires.room;
      splits = c.in_ok-left.ensures.split;
    } in
    let same : AllowsSame (g.G.Guide.may_weigh c.args.guide.now) (g.G.Guide.may_weigh c.cut_leaf.new.guide) (g.G.Guide.may_try c.args.guide.now) (g.G.Guide.may_try c.cut_leaf.new.guide) (g.G.Guide.may_cut c.args.guide.now) (g.G.Guide.may_cut c.cut_leaf.new.guide) = allows_twice _ _ _ _ _ _ _ _ _ c.pick-leaf.ensures.same c.cut_leaf.ensures.same in
    let same_on : AllowsSame (g.G.Guide.may_weigh c.args.guide.now) (g.G.Guide.may_weigh c.settle_child.new.guide) (g.G.Guide.may_try c.args.guide.now) (g.G.Guide.may_try c.settle_child.new.guide) (g.G.Guide.may_cut c.args.guide.now) (g.G.Guide.may_cut c.settle_child.new.guide) = allows_twice _ _ _ _ _ _ _ _ _ same c.settle_child.ensures.same in
    let left : SettlesBox (g.G.Guide.may_weigh c.args.guide.now) (g.G.Guide.may_try c.args.guide.now) c.args.task.now.system.now c.split.new.state c.settle_child.new.state (length c.args.state.now.tree.nodes) (box_of c.split.new.state.tree (length c.args.state.now.tree.nodes)) =
    subst (λ (k : ℕ). SettlesBox (g.G.Guide.may_weigh c.args.guide.now) (g.G.Guide.may_try c.args.guide.now) c.args.task.now.system.now c.split.new.state c.settle_child.new.state k (box_of c.split.new.state.tree k)) c.in_ok-left.ensures.left
    (settles_before (g.G.Guide.may_weigh c.args.guide.now) (g.G.Guide.may_weigh c.cut_leaf.new.guide) (g.G.Guide.may_try c.args.guide.now) (g.G.Guide.may_try c.cut_leaf.new.guide) (g.G.Guide.may_cut c.args.guide.now) (g.G.Guide.may_cut c.cut_leaf.new.guide) c.args.task.now.system.now c.split.new.state c.settle_child.new.state c.in_ok-left.left (box_of c.split.new.state.tree c.in_ok-left.left) same c.in_ok-settle_child.ensures.settled)
    in
    let growing : IsGrowing (g.G.Guide.may_weigh c.args.guide.now) (g.G.Guide.may_try c.args.guide.now) c.args.task.now.system.now c.args.task.now.gap c.args.state.now c.split.new.state c.settle_child.new.state c.pick-leaf.result.0 c.pick-leaf.result.1 c.in_ok-cut.cut.0 c.in_ok-cut.cut.1 = record { parting = parting; left = left } in
    let right : SettlesBox (g.G.Guide.may_weigh c.settle_child.new.guide) (g.G.Guide.may_try c.settle_child.new.guide) c.args.task.now.system.now c.settle_child.new.state c.settle_child-2.new.state c.in_ok-left.right (box_of c.settle_child.new.state.tree c.in_ok-left.right) → SettlesBox (g.G.Guide.may_weigh c.args.guide.now) (g.G.Guide.may_try c.args.guide.now) c.args.task.now.system.now c.settle_child.new.state c.settle_child-2.new.state (length c.args.state.now.tree.nodes + 1) (box_of c.settle_child.new.state.tree (length c.args.state.now.tree.nodes + 1)) =
    λ h.
    subst (λ (k : ℕ). SettlesBox (g.G.Guide.may_weigh c.args.guide.now) (g.G.Guide.may_try c.args.guide.now) c.args.task.now.system.now c.settle_child.new.state c.settle_child-2.new.state k (box_of c.settle_child.new.state.tree k)) c.in_ok-left.ensures.right
    (settles_before (g.G.Guide.may_weigh c.args.guide.now) (g.G.Guide.may_weigh c.settle_child.new.guide) (g.G.Guide.may_try c.args.guide.now) (g.G.Guide.may_try c.settle_child.new.guide) (g.G.Guide.may_cut c.args.guide.now) (g.G.Guide.may_cut c.settle_child.new.guide) c.args.task.now.system.now c.settle_child.new.state c.settle_child-2.new.state c.in_ok-left.right (box_of c.settle_child.new.state.tree c.in_ok-left.right) same_on h)
    in
    λ first led.
    on_ok_weaker c.settle_child-2.result
    (λ (h : SettlesBox (g.G.Guide.may_weigh c.settle_child.new.guide) (g.G.Guide.may_try c.settle_child.new.guide) c.args.task.now.system.now c.settle_child.new.state c.settle_child-2.new.state c.in_ok-left.right (box_of c.settle_child.new.state.tree c.in_ok-left.right)).
    grown_led (g.G.Guide.may_weigh c.args.guide.now) (g.G.Guide.may_try c.args.guide.now) (g.G.Guide.may_cut c.args.guide.now) c.args.task.now.system.now c.args.task.now.gap first c.args.state.now c.split.new.state c.settle_child.new.state c.settle_child-2.new.state c.pick-leaf.result.0 c.pick-leaf.result.1 c.in_ok-cut.cut.0 c.in_ok-cut.cut.1 growing (right h)
    (cut_before (g.G.Guide.may_weigh c.args.guide.now) (g.G.Guide.may_weigh c.pick-leaf.new.guide) (g.G.Guide.may_try c.args.guide.now) (g.G.Guide.may_try c.pick-leaf.new.guide) (g.G.Guide.may_cut c.args.guide.now) (g.G.Guide.may_cut c.pick-leaf.new.guide) c.args.task.now.system.now (box_of c.args.state.now.tree c.pick-leaf.result.1) c.in_ok-cut.cut.0 c.in_ok-cut.cut.1 c.pick-leaf.ensures.same c.in_ok-cut.ensures.line) led)
    c.settle_child-2.ensures.settled

pub returns-clause-same : goal.returns-clause-same
returns-clause-same g c =
    allows_twice _ _ _ _ _ _ _ _ _ c.pick-leaf.ensures.same
    (allows_twice _ _ _ _ _ _ _ _ _ c.cut_leaf.ensures.same (allows_twice _ _ _ _ _ _ _ _ _ c.settle_child.ensures.same c.settle_child-2.ensures.same))
