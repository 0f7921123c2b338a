-- A search keeps what is always true of it, and what it kept of its guide's answers, when an open leaf is split.
use Rattle.std.proofs.Common.{◌≡◌, ◌≢◌, ◌⊎◌, inl, inr, ℕ, ◌+◌, ◌<◌, ◌≤◌, true, false, List, [], length, Option, Some, None, ℤ, ◌-ℤ◌, ◌≤ℤ◌, ◌<ℤ◌, int_le, ap, sym, ◌∙◌, subst, arith}
use Rattle.std.specs.Prelude.{Contains, IfSome}
use Rattle.std.specs.Int.{int_max}
use Rattle.std.proofs.lemmas.Int.{ints}
use Rattle.opt_sums.proofs.EntryLemmas.{same_or_other}
use Rattle.opt_system.specs.Ranges.{Range}
use Rattle.opt_system.specs.Cuts.{IsCut}
use Rattle.opt_system.specs.Systems.{System, value}
use Rattle.opt_bound.specs.declared.leaf.Leaf.{Leaf}
use Rattle.opt_bound.specs.declared.leaf.Leaf.TheVariants.{AtLeast}
use Rattle.opt_bound.specs.Multipliers.{Multipliers, IsProper, IsAdmissible}
use Rattle.opt_tree.specs.declared.limits.TheConstants.{NODE_LIMIT}
use Rattle.opt_tree.specs.declared.node.Node.{Node}
use Rattle.opt_tree.specs.declared.node.Node.TheVariants as node
use Rattle.opt_tree.specs.declared.node.TreeNode.{TreeNode}
use Rattle.opt_tree.specs.Shown.{leaf_at, Known, is_closed, is_reached}
use Rattle.opt_tree.specs.Nodes.{Tree, IsTree, IsLeaf, node_at, box_of, split_at}
use Rattle.opt_tree.proofs.SplitLemmas.{length-split_at, node_at-split_other, node_at-split_same, node_at-split_left, node_at-split_right, box_of-split}
use Rattle.opt_tree.proofs.SplitTree.{IsTree-split_at}
use Rattle.opt_guide.specs.Relations.{OfMultipliers, OfCandidates, OfCuts}
use Rattle.opt_search.specs.declared.state.Best.{Best}
use Rattle.opt_search.specs.declared.state.State.{State}
use Rattle.opt_search.specs.Guided.{IsOnePoint, IsLine, IsLeafLine, IsCutLine, IsAtMost, WasWeighed, WeighsOne, LiesBelow, WasOpen}
use Rattle.opt_search.specs.State.{bound_of_leaf, shown_at, best_value, known_in, IsSettledLeaf, IsOpenLeaf, IsBest, IsSound, IsLed, IsComplete, Splits}
use Rattle.opt_search.proofs.ClosingLemmas.{not_both, same_bound}
use Rattle.opt_search.proofs.SoundSteps.{none_there, none_in}
use Rattle.opt_search.proofs.SettleSteps.{known_same}

-- ---- open leaves
-- an open leaf has more than one point
pub open_several : (s : System) (gap : ℤ) (st : State) (bound : ℤ) (i : ℕ) → IsSound s gap st → IsOpenLeaf gap st bound i → ¬ IsOnePoint (box_of st.tree i)
open_several s gap st bound i sound is one =
    not_both is.open_still (subst (λ (l : Leaf). is_closed (known_in gap st) l ≡ true) is.shown (sound.points_closed i is.leaf one))

-- ---- the split leaf
-- an open leaf of a complete search is split at a cut of its box
pub record IsParting (s : System) (gap : ℤ) (old new : State) (bound : ℤ) (leaf j : ℕ) (c : ℤ) : Type 0 where
  pub sound : IsSound s gap old
  pub complete : IsComplete old
  pub was_open : Contains old.open_leaves (bound, leaf)
  pub cut : IsCut (box_of old.tree leaf) j c
  pub room : length old.tree.nodes + 2 ≤ NODE_LIMIT
  pub splits : Splits old new bound leaf j c

opened : (s : System) (gap : ℤ) (old new : State) (bound : ℤ) (leaf j : ℕ) (c : ℤ) → IsParting s gap old new bound leaf j c → IsOpenLeaf gap old bound leaf
opened s gap old new bound leaf j c h = (h.sound.open_are bound leaf).0 h.was_open

-- what the tree is after the split
record IsAfter (old new : Tree) (leaf j : ℕ) (c : ℤ) : Type 0 where
  count : length new.nodes ≡ length old.nodes + 2
  here : (node_at new.nodes leaf).node ≡ node.Split j c (length old.nodes) (length old.nodes + 1)
  other : (k : ℕ) → k < length old.nodes → k ≢ leaf → node_at new.nodes k ≡ node_at old.nodes k
  left : (node_at new.nodes (length old.nodes)).node ≡ node.Leaf
  right : (node_at new.nodes (length old.nodes + 1)).node ≡ node.Leaf
  box : (k : ℕ) → k < length old.nodes → box_of new k ≡ box_of old k

after_split : (t : Tree) (leaf j : ℕ) (c : ℤ) → leaf < length t.nodes → IsAfter t (split_at t leaf j c) leaf j c
after_split t leaf j c below = record {
  count = length-split_at t leaf j c;
  here = ap (λ (n : TreeNode). n.node) (node_at-split_same t leaf j c below);
  other = node_at-split_other t leaf j c;
  left = ap (λ (n : TreeNode). n.node) (node_at-split_left t leaf j c);
  right = ap (λ (n : TreeNode). n.node) (node_at-split_right t leaf j c);
  box = box_of-split t leaf j c;
}

after_of : (s : System) (gap : ℤ) (old new : State) (bound : ℤ) (leaf j : ℕ) (c : ℤ) → IsParting s gap old new bound leaf j c → IsAfter old.tree new.tree leaf j c
after_of s gap old new bound leaf j c h =
    subst (λ (u : Tree). IsAfter old.tree u leaf j c) (sym h.splits.tree)
    (after_split old.tree leaf j c (opened s gap old new bound leaf j c h).leaf.leaf.in_tree)

-- the children are leaves of the tree
pub left_is_leaf : (s : System) (gap : ℤ) (old new : State) (bound : ℤ) (leaf j : ℕ) (c : ℤ) → IsParting s gap old new bound leaf j c → IsLeaf new.tree (length old.tree.nodes)
left_is_leaf s gap old new bound leaf j c h =
    let after : IsAfter old.tree new.tree leaf j c = after_of s gap old new bound leaf j c h in
    record { in_tree = omega (arith, after.count); leaf = after.left }

pub right_is_leaf : (s : System) (gap : ℤ) (old new : State) (bound : ℤ) (leaf j : ℕ) (c : ℤ) → IsParting s gap old new bound leaf j c → IsLeaf new.tree (length old.tree.nodes + 1)
right_is_leaf s gap old new bound leaf j c h =
    let after : IsAfter old.tree new.tree leaf j c = after_of s gap old new bound leaf j c h in
    record { in_tree = omega (arith, after.count); leaf = after.right }

pub two_more : (s : System) (gap : ℤ) (old new : State) (bound : ℤ) (leaf j : ℕ) (c : ℤ) → IsParting s gap old new bound leaf j c → length new.tree.nodes ≡ length old.tree.nodes + 2
two_more s gap old new bound leaf j c h = (after_of s gap old new bound leaf j c h).count

not_leaf : {n : Node} {j l r : ℕ} {c : ℤ} → n ≡ node.Split j c l r → n ≡ node.Leaf → ⊥
not_leaf e f = cc

same_cut : {j a n l m r : ℕ} {c d : ℤ} → node.Split j c n m ≡ node.Split a d l r → (j ≡ a) × (c ≡ d)
same_cut e = (cc, cc)

three : (k n : ℕ) → k < n + 2 → (k < n) ⊎ ((k ≡ n) ⊎ (k ≡ n + 1))
three k n h = grind arith

-- a leaf of the new tree that is settled was one before, and another than the split one
old_leaf : (s : System) (gap : ℤ) (old new : State) (bound : ℤ) (leaf j : ℕ) (c : ℤ) → IsParting s gap old new bound leaf j c → (i : ℕ) → IsSettledLeaf new i → IsSettledLeaf old i × (i ≢ leaf) × (i < length old.tree.nodes)
old_leaf s gap old new bound leaf j c h i is =
    let after : IsAfter old.tree new.tree leaf j c = after_of s gap old new bound leaf j c h in
    let count : length new.shown.items ≡ length old.shown.items = ap (λ (xs : List Leaf). length xs) h.splits.shown in
    let settled : i < length old.shown.items = omega (arith, count, is.settled) in
    let below : i < length old.tree.nodes = omega (arith, h.complete, settled) in
    let other : i ≢ leaf = λ e. not_leaf after.here (ap (λ (k : ℕ). (node_at new.tree.nodes k).node) (sym e) ∙ is.leaf.leaf) in
    (record { leaf = record { in_tree = below; leaf = ap (λ (n : TreeNode). n.node) (sym (after.other i below other)) ∙ is.leaf.leaf }; settled = settled }, other, below)

kept_leaf : (s : System) (gap : ℤ) (old new : State) (bound : ℤ) (leaf j : ℕ) (c : ℤ) → IsParting s gap old new bound leaf j c → (i : ℕ) → IsSettledLeaf old i → i ≢ leaf → IsSettledLeaf new i
kept_leaf s gap old new bound leaf j c h i is other =
    let after : IsAfter old.tree new.tree leaf j c = after_of s gap old new bound leaf j c h in
    let count : length new.shown.items ≡ length old.shown.items = ap (λ (xs : List Leaf). length xs) h.splits.shown in
    let below : i < length old.tree.nodes = is.leaf.in_tree in
    record {
      leaf = record { in_tree = omega (arith, after.count, below); leaf = ap (λ (n : TreeNode). n.node) (after.other i below other) ∙ is.leaf.leaf };
      settled = omega (arith, count, is.settled);
    }

pub sound_split : (s : System) (gap : ℤ) (old new : State) (bound : ℤ) (leaf j : ℕ) (c : ℤ) → IsParting s gap old new bound leaf j c → IsSound s gap new
sound_split s gap old new bound leaf j c h =
    let sound : IsSound s gap old = h.sound in
    let splits : Splits old new bound leaf j c = h.splits in
    let was_open : IsOpenLeaf gap old bound leaf = opened s gap old new bound leaf j c h in
    let after : IsAfter old.tree new.tree leaf j c = after_of s gap old new bound leaf j c h in
    let known : known_in gap new ≡ known_in gap old = known_same gap old new splits.root_bound splits.best in
    let was = old_leaf s gap old new bound leaf j c h in
    record {
      limited = sound.limited;
      tree = subst (λ (u : Tree). IsTree u) (sym splits.tree) (IsTree-split_at old.tree leaf j c sound.tree was_open.leaf.leaf h.cut h.room);
      same_root = ap (λ (u : Tree). u.root) splits.tree ∙ sound.same_root;
      root_proper = subst (λ (k : Multipliers). IsProper k) (sym splits.root) sound.root_proper;
      root_admissible = subst (λ (k : Multipliers). IsAdmissible s k) (sym splits.root) sound.root_admissible;
      root_empty = λ e.
          let none : old.open_leaves ≡ [] = sound.root_empty (ap (leaf_at s s.root) (sym splits.root) ∙ e) in
          none_there new.open_leaves (λ b i k. none_in b i (subst (λ (xs : List (ℤ × ℕ)). Contains xs (b, i)) none ((splits.open_leaves b i).0 k).0));
      root_bound_is = splits.root_bound ∙ sound.root_bound_is ∙ ap (λ (k : Multipliers). bound_of_leaf (leaf_at s s.root k)) (sym splits.root);
      settled = omega (arith, ap (λ (xs : List Leaf). length xs) splits.shown, after.count, sound.settled);
      proper = λ i is. subst (λ (n : TreeNode). IsProper n.mult) (sym (after.other i (was i is).2 (was i is).1)) (sound.proper i (was i is).0);
      admissible = λ i is. subst (λ (n : TreeNode). IsAdmissible s n.mult) (sym (after.other i (was i is).2 (was i is).1)) (sound.admissible i (was i is).0);
      shown_is = λ i is.
          ap (λ (xs : List Leaf). shown_at xs i) splits.shown
          ∙ sound.shown_is i (was i is).0
          ∙ ap (λ (n : TreeNode). leaf_at s (box_of old.tree i) n.mult) (sym (after.other i (was i is).2 (was i is).1))
          ∙ ap (λ (b : Range). leaf_at s b (node_at new.tree.nodes i).mult) (sym (after.box i (was i is).2));
      points_closed = λ i is one.
          ap (λ (k : Known). is_closed k (shown_at new.shown.items i)) known
          ∙ ap (λ (xs : List Leaf). is_closed (known_in gap old) (shown_at xs i)) splits.shown
          ∙ sound.points_closed i (was i is).0 (subst (λ (b : Range). IsOnePoint b) (after.box i (was i is).2) one);
      open_are = λ b i. (
        λ k.
            let before : IsOpenLeaf gap old b i = (sound.open_are b i).0 ((splits.open_leaves b i).0 k).0 in
            let other : i ≢ leaf = λ e.
            ((splits.open_leaves b i).0 k).1 (same_bound before.shown (ap (λ (n : ℕ). shown_at old.shown.items n) e ∙ was_open.shown), e)
            in
            record {
              leaf = kept_leaf s gap old new bound leaf j c h i before.leaf other;
              shown = ap (λ (xs : List Leaf). shown_at xs i) splits.shown ∙ before.shown;
              open_still = ap (λ (n : Known). is_closed n (AtLeast b)) known ∙ before.open_still;
            },
        λ k.
            (splits.open_leaves b i).1 (
              (sound.open_are b i).1 (record {
                leaf = (was i k.leaf).0;
                shown = ap (λ (xs : List Leaf). shown_at xs i) (sym splits.shown) ∙ k.shown;
                open_still = ap (λ (n : Known). is_closed n (AtLeast b)) (sym known) ∙ k.open_still;
              }),
              λ e. (was i k.leaf).1 e.1,
            ),
      );
      best_is = subst (λ (b : Option Best). IfSome b (IsBest s)) (sym splits.best) sound.best_is;
    }

-- ---- the guide
below_gap : (b v gap x : ℤ) → b ≤ℤ v → int_le (b -ℤ gap) x ≡ false → x <ℤ (v -ℤ gap)
below_gap b v gap x h k = grind (arith, ints)

at_most_below : (best : Option ℤ) (v gap x : ℤ) → IsAtMost best v → is_reached best gap x ≡ false → x <ℤ (v -ℤ gap)
at_most_below None v gap x h k = absurd h
at_most_below (Some b) v gap x h k = below_gap b v gap x h k

lies_below : (s : System) (gap : ℤ) (best : Option ℤ) (first : Option (List ℤ)) (x : ℤ) → WasWeighed s best first → is_reached best gap x ≡ false → LiesBelow s gap first x
lies_below s gap best None x weighed k = tt
lies_below s gap best (Some y) x weighed k = λ meets. at_most_below best (value s y) gap x (weighed meets) k

own_line : (weigh : OfMultipliers) (s : System) (gap : ℤ) (st : State) (bound : ℤ) (i : ℕ) (m : Multipliers) → IsSound s gap st → IsOpenLeaf gap st bound i → IsLeafLine weigh s (box_of st.tree i) m → IsLine weigh s (box_of st.tree i) m
own_line weigh s gap st bound i m sound is line = elim line [ inl e ↦ e | inr e ↦ absurd (open_several s gap st bound i sound is e.0) ]

-- an open leaf's line was open
pub was_open_of : (weigh : OfMultipliers) (try : OfCandidates) (cut : OfCuts) (s : System) (gap : ℤ) (first : Option (List ℤ)) (st : State) (bound : ℤ) (i : ℕ) → IsSound s gap st → IsLed weigh try cut s gap first st → IsOpenLeaf gap st bound i → WasOpen weigh s gap st.root_bound first (box_of st.tree i)
was_open_of weigh try cut s gap first st bound i sound led is = record {
  line = (node_at st.tree.nodes i).mult;
  is_line = own_line weigh s gap st bound i (node_at st.tree.nodes i).mult sound is (led.leaf_lines i is.leaf);
  bound = bound;
  shown = sym (sound.shown_is i is.leaf) ∙ is.shown;
  below = lies_below s gap (best_value st.best) first (int_max st.root_bound bound) led.first_weighed is.open_still;
}

-- what holds of the new split and of each before holds of each split
each_split : (old new : Tree) (leaf j : ℕ) (c : ℤ) → IsAfter old new leaf j c → (P : ℕ → ℕ → ℤ → Type 0) → P leaf j c → ((i a : ℕ) (d : ℤ) (l r : ℕ) → i < length old.nodes → (node_at old.nodes i).node ≡ node.Split a d l r → P i a d) → (i a : ℕ) (d : ℤ) (l r : ℕ) → i < length new.nodes → (node_at new.nodes i).node ≡ node.Split a d l r → P i a d
each_split old new leaf j c after P here before i a d l r below is =
    elim (three i (length old.nodes) (omega (arith, after.count, below))) [
      | inl under ↦ elim (same_or_other i leaf) [
        | inl e ↦ here_split old new leaf j c after P here i a d l r e is
        | inr other ↦
            let was : (node_at old.nodes i).node ≡ node.Split a d l r = ap (λ (n : TreeNode). n.node) (sym (after.other i under other)) ∙ is in
            before i a d l r under was
      ]
      | inr e ↦ elim e [
        | inl f ↦ absurd (not_leaf is (ap (λ (k : ℕ). (node_at new.nodes k).node) f ∙ after.left))
        | inr f ↦ absurd (not_leaf is (ap (λ (k : ℕ). (node_at new.nodes k).node) f ∙ after.right))
      ]
    ]
  where
    here_split : (old new : Tree) (leaf j : ℕ) (c : ℤ) → IsAfter old new leaf j c → (P : ℕ → ℕ → ℤ → Type 0) → P leaf j c → (i a : ℕ) (d : ℤ) (l r : ℕ) → i ≡ leaf → (node_at new.nodes i).node ≡ node.Split a d l r → P i a d
    here_split old new leaf j c after P here i a d l r e is =
        let cuts : (j ≡ a) × (c ≡ d) = same_cut (sym after.here ∙ ap (λ (k : ℕ). (node_at new.nodes k).node) (sym e) ∙ is) in
        subst (λ (k : ℕ). P k a d) (sym e) (subst (λ (k : ℕ). P leaf k d) cuts.0 (subst (λ (v : ℤ). P leaf j v) cuts.1 here))

again : (weigh : OfMultipliers) (s : System) (gap from to : ℤ) (first : Option (List ℤ)) (box other : Range) → box ≡ other → from ≡ to → WasOpen weigh s gap from first box → WasOpen weigh s gap to first other
again weigh s gap from to first box other box_is rb_is h =
    subst (λ (b : Range). WasOpen weigh s gap to first b) box_is (subst (λ (r : ℤ). WasOpen weigh s gap r first box) rb_is h)

pub led_split : (weigh : OfMultipliers) (try : OfCandidates) (cut : OfCuts) (s : System) (gap : ℤ) (first : Option (List ℤ)) (old new : State) (bound : ℤ) (leaf j : ℕ) (c : ℤ) → IsParting s gap old new bound leaf j c → IsCutLine cut s (box_of old.tree leaf) j c → IsLed weigh try cut s gap first old → IsLed weigh try cut s gap first new
led_split weigh try cut s gap first old new bound leaf j c h line led =
    let splits : Splits old new bound leaf j c = h.splits in
    let is : IsOpenLeaf gap old bound leaf = opened s gap old new bound leaf j c h in
    let after : IsAfter old.tree new.tree leaf j c = after_of s gap old new bound leaf j c h in
    let was = old_leaf s gap old new bound leaf j c h in
    let there : leaf < length old.tree.nodes = is.leaf.leaf.in_tree in
    record {
      root_line = subst (λ (k : Multipliers). IsLine weigh s s.root k) (sym splits.root) led.root_line;
      leaf_lines = λ i here.
          subst (λ (b : Range). IsLeafLine weigh s b (node_at new.tree.nodes i).mult) (sym (after.box i (was i here).2))
          (subst (λ (n : TreeNode). IsLeafLine weigh s (box_of old.tree i) n.mult) (sym (after.other i (was i here).2 (was i here).1)) (led.leaf_lines i (was i here).0));
      cuts =
          each_split old.tree new.tree leaf j c after (λ (i a : ℕ) (d : ℤ). IsCutLine cut s (box_of new.tree i) a d)
          (subst (λ (b : Range). IsCutLine cut s b j c) (sym (after.box leaf there)) line)
          (λ i a d l r below at. subst (λ (b : Range). IsCutLine cut s b a d) (sym (after.box i below)) (led.cuts i a d l r below at));
      candidates = λ i below.
          let under : i < length old.shown.items = omega (arith, ap (λ (xs : List Leaf). length xs) splits.shown, below) in
          let in_tree : i < length old.tree.nodes = omega (arith, under, h.complete) in
          subst (λ (b : Range). WeighsOne try s (best_value new.best) b) (sym (after.box i in_tree))
          (subst (λ (b : Option Best). WeighsOne try s (best_value b) (box_of old.tree i)) (sym splits.best) (led.candidates i under));
      first_tried = led.first_tried;
      first_weighed = subst (λ (b : Option Best). WasWeighed s (best_value b) first) (sym splits.best) led.first_weighed;
      opened =
          each_split old.tree new.tree leaf j c after (λ (i a : ℕ) (d : ℤ). WasOpen weigh s gap new.root_bound first (box_of new.tree i))
          (again weigh s gap old.root_bound new.root_bound first (box_of old.tree leaf) (box_of new.tree leaf) (sym (after.box leaf there)) (sym splits.root_bound) (was_open_of weigh try cut s gap first old bound leaf h.sound led is))
          (λ i a d l r below at. again weigh s gap old.root_bound new.root_bound first (box_of old.tree i) (box_of new.tree i) (sym (after.box i below)) (sym splits.root_bound) (led.opened i a d l r below at));
    }
