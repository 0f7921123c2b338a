-- What the outcome of a search that ends keeps.
use Rattle.std.proofs.Common.{◌≡◌, ◌≢◌, ℕ, ◌+◌, ◌<◌, ◌≤◌, Bool, true, false, List, length, Contains, Option, Some, None, Ok, ℤ, pos, ◌≤ℤ◌, refl, subst, ap, sym, ◌∙◌, arith}
use Rattle.opt_base.specs.declared.verdict.Verdict.{Verdict}
use Rattle.opt_system.specs.Ranges.{Range, IsOrdered, points}
use Rattle.opt_system.specs.Cuts.{IsCut, left_half, right_half}
use Rattle.opt_system.specs.Systems.{System}
use Rattle.opt_system.proofs.CutLemmas.{IsOrdered-left, IsOrdered-right, points-positive, points-left, points-right, one_point}
use Rattle.opt_bound.specs.Multipliers.{Multipliers}
use Rattle.opt_tree.specs.declared.outcome.Outcome.{Outcome}
use Rattle.opt_tree.specs.Certificates.{IsCertificate, named_value}
use Rattle.opt_tree.specs.Nodes.{Tree, IsTree, node_at, box_of}
use Rattle.opt_tree.specs.Outcomes.{outcome_certificate}
use Rattle.opt_tree.specs.Shown.{leaf_at, is_closed, bound_shown, shown}
use Rattle.opt_tree.specs.Verdicts.{IsTrueVerdict}
use Rattle.opt_tree.proofs.BoxLemmas.{box_of-IsBox}
use Rattle.opt_tree.proofs.OneLeaf.{in_one_leaf}
use Rattle.opt_tree.proofs.LeafSums.{node_count-tree_of, leaf_count-tree_of, nodes_below_points, room_for_split, cuts_of_tree}
use Rattle.opt_guide.specs.Relations.{OfMultipliers, OfCandidates, OfCuts}
use Rattle.opt_search.specs.declared.state.State.{State}
use Rattle.opt_search.specs.Guided.{WeighsOne, WasWeighed, WasOpen}
use Rattle.opt_search.specs.State.{bound_of_leaf, best_value, known_in, IsOpenLeaf, IsSound, IsLed, verdict_by, is_empty, Concludes}
use Rattle.opt_search.specs.Outcomes.{IsParted, Parts, IsCounted, EndsEarly, EndsEarlyWhere, IsUnfinishedAt, FollowsGuide, best_point}
use Rattle.opt_search.proofs.Ended.{IsEnded, best_known, over_limit, named_by, some_of, settled_leaf, not_closed, shown_ended}
use Rattle.opt_search.proofs.Certified.{certificate_ended, true_ended}

-- the outcome is what the search has at its end, and this verdict
abbrev pub outcome_of : State → Verdict → Outcome
outcome_of st v = record { verdict = v; tree = st.tree; root = st.root; best = best_known st.best }

-- ---- boxes
parted : (box : Range) (j : ℕ) (c : ℤ) → IsOrdered box → IsCut box j c → IsParted box j c
parted box j c ordered cut = record {
  cut = cut;
  left_some = points-positive (left_half box j c) (IsOrdered-left box j c ordered cut);
  right_some = points-positive (right_half box j c) (IsOrdered-right box j c ordered cut);
  left_fewer = points-left box j c ordered cut;
  right_fewer = points-right box j c ordered cut;
}

parts_tree : (t : Tree) (v : Verdict) (m : Multipliers) (best : Option (List ℤ)) → IsTree t → Parts t.root (record { verdict = v; tree = t; root = m; best = best })
parts_tree t v m best tree = record {
  same_root = refl;
  cuts = cuts_of_tree t tree;
  parted = λ i j c l r below kind. parted (box_of t i) j c (box_of-IsBox t i tree below).ordered (tree.splits i j c l r below kind).cut;
  covered = λ x inside. in_one_leaf t x tree inside;
}

pub parts_ended : (s : System) (gap : ℤ) (limit : ℕ) (st : State) (v : Verdict) → IsEnded s gap limit st → Parts s.root (outcome_of st v)
parts_ended s gap limit st v ended =
    subst (λ (r : Range). Parts r (outcome_of st v)) ended.sound.same_root (parts_tree st.tree v st.root (best_known st.best) ended.sound.tree)

-- ---- counts
pub counted_ended : (s : System) (gap : ℤ) (limit : ℕ) (st : State) (v : Verdict) → IsEnded s gap limit st → length st.tree.nodes ≤ limit → IsCounted (points s.root) limit (outcome_of st v)
counted_ended s gap limit st v ended few = record {
  all_nodes = node_count-tree_of st.tree ended.sound.tree;
  leaves = omega (arith, leaf_count-tree_of st.tree ended.sound.tree, ended.sound.tree.leaves);
  by_points = omega (arith, nodes_below_points st.tree ended.sound.tree, ap points ended.sound.same_root);
  by_limit = few;
}

-- ---- an end before all is known
-- the box of an open leaf has more than one point
several_points : (s : System) (gap : ℤ) (st : State) (b : ℤ) (i : ℕ) → IsSound s gap st → IsOpenLeaf gap st b i → 2 ≤ points (box_of st.tree i)
several_points s gap st b i sound open_leaf =
    let ordered : IsOrdered (box_of st.tree i) = (box_of-IsBox st.tree i sound.tree open_leaf.leaf.leaf.in_tree).ordered in
    let some : 1 ≤ points (box_of st.tree i) = points-positive (box_of st.tree i) ordered in
    let many : points (box_of st.tree i) ≢ 1 = λ one.
    let closed : true ≡ false =
    sym (sound.points_closed i open_leaf.leaf (one_point (box_of st.tree i) ordered one)) ∙ ap (is_closed (known_in gap st)) open_leaf.shown ∙ open_leaf.open_still
    in
    cc
    in
    omega arith

early : (s : System) (gap : ℤ) (limit : ℕ) (st : State) (v : Verdict) → IsEnded s gap limit st → named_value v ≡ best_value st.best → is_empty st.open_leaves ≡ false → EndsEarly s gap limit (outcome_of st v)
early s gap limit st v ended named some =
    let sound : IsSound s gap st = ended.sound in
    let p : (b : ℤ) × (i : ℕ) × Contains st.open_leaves (b, i) = some_of st.open_leaves some in
    let open_leaf : IsOpenLeaf gap st p.0 p.1 = (sound.open_are p.0 p.1).0 p.2 in
    let past : limit < length st.tree.nodes + 2 = over_limit st.open_leaves limit (length st.tree.nodes) ended.over some in
    record {
      some_open = (
        p.1,
        record {
          leaf = open_leaf.leaf.leaf;
          not_closed =
              ap (λ (best : Option ℤ). is_closed (record { must_close = false; root_bound = bound_of_leaf (leaf_at s s.root st.root); best = best; gap = gap }) (leaf_at s (box_of st.tree p.1) (node_at st.tree.nodes p.1).mult)) named
              ∙ ap (λ (r : ℤ). is_closed (record { must_close = false; root_bound = r; best = best_value st.best; gap = gap }) (leaf_at s (box_of st.tree p.1) (node_at st.tree.nodes p.1).mult)) (sym sound.root_bound_is)
              ∙ not_closed s gap st false p.0 p.1 sound ended.complete open_leaf;
        },
      );
      at_limit = past;
      limit_short = omega (arith, room_for_split st.tree p.1 sound.tree open_leaf.leaf.leaf (several_points s gap st p.0 p.1 sound open_leaf), ap points sound.same_root);
    }

-- a verdict of Unfinished wants an open leaf
early_by : (s : System) (gap : ℤ) (limit : ℕ) (o : Outcome) (e : Bool) (best : Option ℤ) (bound : ℤ) → (e ≡ false → EndsEarly s gap limit o) → EndsEarlyWhere s gap limit o (verdict_by e best bound)
early_by s gap limit o true (Some b) bound h = tt
early_by s gap limit o true None bound h = tt
early_by s gap limit o false best bound h = h refl

named_ended : (st : State) (v : Verdict) → Concludes st v → named_value v ≡ best_value st.best
named_ended st v concludes =
    ap named_value concludes.verdict_is ∙ named_by (is_empty st.open_leaves) (best_value st.best) (bound_shown st.root_bound (best_value st.best) concludes.least)

pub unfinished_ended : (s : System) (gap : ℤ) (limit : ℕ) (st : State) (v : Verdict) → IsEnded s gap limit st → Concludes st v → IsUnfinishedAt s gap limit (outcome_of st v)
unfinished_ended s gap limit st v ended concludes =
    subst (λ (w : Verdict). EndsEarlyWhere s gap limit (outcome_of st v) w) (sym concludes.verdict_is)
    (early_by s gap limit (outcome_of st v) (is_empty st.open_leaves) (best_value st.best) (bound_shown st.root_bound (best_value st.best) concludes.least)
    (early s gap limit st v ended (named_ended st v concludes)))

-- ---- the guide
guided_ended : (weigh : OfMultipliers) (try : OfCandidates) (cut : OfCuts) (s : System) (gap : ℤ) (limit : ℕ) (first : Option (List ℤ)) (st : State) (v : Verdict) → IsEnded s gap limit st → named_value v ≡ best_value st.best → IsLed weigh try cut s gap first st → FollowsGuide weigh try cut s gap (outcome_of st v)
guided_ended weigh try cut s gap limit first st v ended named led = record {
  root_line = led.root_line;
  leaf_lines = λ i is. led.leaf_lines i (settled_leaf st i ended.complete is);
  cuts = led.cuts;
  candidates = λ i below.
      subst (λ (b : Option ℤ). WeighsOne try s b (box_of st.tree i)) (sym named) (led.candidates i (omega (arith, ended.complete)));
  splits = record {
    first = first;
    answered = led.first_tried;
    weighed = subst (λ (b : Option ℤ). WasWeighed s b first) (sym named) led.first_weighed;
    were_open = λ i j c l r below kind.
        subst (λ (b : ℤ). WasOpen weigh s gap b first (box_of st.tree i)) ended.sound.root_bound_is (led.opened i j c l r below kind);
  };
}

pub follows_ended : (weigh : OfMultipliers) (try : OfCandidates) (cut : OfCuts) (s : System) (gap : ℤ) (limit : ℕ) (first : Option (List ℤ)) (st : State) (v : Verdict) → IsEnded s gap limit st → Concludes st v → IsLed weigh try cut s gap first st → FollowsGuide weigh try cut s gap (outcome_of st v)
follows_ended weigh try cut s gap limit first st v ended concludes led =
    guided_ended weigh try cut s gap limit first st v ended (named_ended st v concludes) led

-- ---- by what an outcome is said to be
-- the outcome has the search's tree, root line and best point, and a verdict that concludes it
pub record IsOutcomeOf (st : State) (o : Outcome) : Type 0 where
  pub verdict : Concludes st o.verdict
  pub tree : o.tree ≡ st.tree
  pub root : o.root ≡ st.root
  pub best : o.best ≡ best_known st.best

pub outcome_is : (st : State) (o : Outcome) → IsOutcomeOf st o → outcome_of st o.verdict ≡ o
outcome_is st o is =
    let by_tree : Tree → Outcome = λ t. record { verdict = o.verdict; tree = t; root = st.root; best = best_known st.best } in
    let by_root : Multipliers → Outcome = λ m. record { verdict = o.verdict; tree = o.tree; root = m; best = best_known st.best } in
    let by_best : Option (List ℤ) → Outcome = λ b. record { verdict = o.verdict; tree = o.tree; root = o.root; best = b } in
    ap by_tree (sym is.tree) ∙ ap by_root (sym is.root) ∙ ap by_best (sym is.best)

-- what a search promises of its outcome, but for its guide
pub record IsRight (s : System) (gap : ℤ) (limit : ℕ) (o : Outcome) : Type 0 where
  pub true_verdict : IsTrueVerdict s gap o.verdict (best_point o)
  pub shown : shown s gap limit (outcome_certificate o) ≡ Ok o.verdict
  pub certificate : IsCertificate (outcome_certificate o)
  pub parted : Parts s.root o
  pub counted : IsCounted (points s.root) limit o
  pub unfinished : IsUnfinishedAt s gap limit o

right_ended : (s : System) (gap : ℤ) (limit : ℕ) (st : State) (v : Verdict) → pos 0 ≤ℤ gap → IsEnded s gap limit st → length st.tree.nodes ≤ limit → Concludes st v → IsRight s gap limit (outcome_of st v)
right_ended s gap limit st v from ended few concludes = record {
  true_verdict = true_ended s gap limit st v from ended concludes;
  shown = shown_ended s gap limit st v ended concludes;
  certificate = certificate_ended s gap limit st v ended concludes;
  parted = parts_ended s gap limit st v ended;
  counted = counted_ended s gap limit st v ended few;
  unfinished = unfinished_ended s gap limit st v ended concludes;
}

pub outcome_right : (s : System) (gap : ℤ) (limit : ℕ) (st : State) (o : Outcome) → pos 0 ≤ℤ gap → IsEnded s gap limit st → length st.tree.nodes ≤ limit → IsOutcomeOf st o → IsRight s gap limit o
outcome_right s gap limit st o from ended few is =
    subst (λ (p : Outcome). IsRight s gap limit p) (outcome_is st o is) (right_ended s gap limit st o.verdict from ended few is.verdict)

pub outcome_guided : (weigh : OfMultipliers) (try : OfCandidates) (cut : OfCuts) (s : System) (gap : ℤ) (limit : ℕ) (first : Option (List ℤ)) (st : State) (o : Outcome) → IsEnded s gap limit st → IsOutcomeOf st o → IsLed weigh try cut s gap first st → FollowsGuide weigh try cut s gap o
outcome_guided weigh try cut s gap limit first st o ended is led =
    subst (λ (p : Outcome). FollowsGuide weigh try cut s gap p) (outcome_is st o is) (follows_ended weigh try cut s gap limit first st o.verdict ended is.verdict led)
