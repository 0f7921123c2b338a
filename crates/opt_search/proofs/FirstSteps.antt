-- A search once its first leaf, the root's box, is settled.
use Rattle.std.proofs.Common.{◌≡◌, ℕ, ◌<◌, List, length, Option, ℤ, ap, sym, ◌∙◌, subst, arith}
use Rattle.opt_system.specs.Ranges.{Range}
use Rattle.opt_system.specs.Systems.{System}
use Rattle.opt_bound.specs.Multipliers.{Multipliers}
use Rattle.opt_tree.specs.declared.node.Node.TheVariants as node
use Rattle.opt_tree.specs.Nodes.{Tree, node_at, box_of, one_leaf, with_mult}
use Rattle.opt_tree.proofs.SameShape.{SameShape, SameShape-with_mult, same_length, same_box, same_kind}
use Rattle.opt_guide.specs.Relations.{OfMultipliers, OfCandidates, OfCuts}
use Rattle.opt_search.specs.declared.state.State.{State}
use Rattle.opt_search.specs.Guided.{IsLine, IsLeafLine, WeighsOne}
use Rattle.opt_search.specs.State.{best_value, IsLed, SettlesBox, IsFirst}

leaf_split : {j l r : ℕ} {c : ℤ} → node.Leaf ≡ node.Split j c l r → ⊥
leaf_split e = cc

only : (i : ℕ) → i < 1 → i ≡ 0
only i h = omega arith

-- the kind of a node of a tree of one leaf
only_kind : (root : Range) (i : ℕ) → i < 1 → (node_at (one_leaf root).nodes i).node ≡ node.Leaf
only_kind root i h = ap (λ (k : ℕ). (node_at (one_leaf root).nodes k).node) (only i h)

after_first : (s : System) (old new : State) (m : Multipliers) → IsFirst s old → new.tree ≡ with_mult old.tree 0 m → SameShape (one_leaf s.root) new.tree
after_first s old new m first e =
    subst (λ (u : Tree). SameShape (one_leaf s.root) u) (sym (e ∙ ap (λ (u : Tree). with_mult u 0 m) first.tree)) (SameShape-with_mult (one_leaf s.root) 0 m)

pub one_node : (s : System) (old new : State) (m : Multipliers) → IsFirst s old → new.tree ≡ with_mult old.tree 0 m → length new.tree.nodes ≡ 1
one_node s old new m first e = same_length (one_leaf s.root) new.tree (after_first s old new m first e)

-- the multipliers of the settled leaf
mult_first : (s : System) (old new : State) (m : Multipliers) → IsFirst s old → new.tree ≡ with_mult old.tree 0 m → (node_at new.tree.nodes 0).mult ≡ m
mult_first s old new m first e = ap (λ (u : Tree). (node_at u.nodes 0).mult) (e ∙ ap (λ (u : Tree). with_mult u 0 m) first.tree)

pub led_first : (weigh : OfMultipliers) (try : OfCandidates) (cut : OfCuts) (s : System) (gap : ℤ) (old new : State) → IsFirst s old → IsLine weigh s s.root old.root → SettlesBox weigh try s old new 0 s.root → (first : Option (List ℤ)) × IsLed weigh try cut s gap first new
led_first weigh try cut s gap old new first line settles =
    let same : SameShape (one_leaf s.root) new.tree = after_first s old new settles.line first settles.tree in
    let one : length new.tree.nodes ≡ 1 = one_node s old new settles.line first settles.tree in
    let box : box_of new.tree 0 ≡ s.root = same_box (one_leaf s.root) new.tree same 0 in
    let no_split : (i j : ℕ) (c : ℤ) (l r : ℕ) → i < length new.tree.nodes → (node_at new.tree.nodes i).node ≡ node.Split j c l r → ⊥ =
    λ i j c l r below is. leaf_split (sym (only_kind s.root i (omega (arith, one, below))) ∙ sym (same_kind (one_leaf s.root) new.tree same i) ∙ is)
    in
    let here : IsLeafLine weigh s (box_of new.tree 0) (node_at new.tree.nodes 0).mult =
    subst (λ (b : Range). IsLeafLine weigh s b (node_at new.tree.nodes 0).mult) (sym box)
    (subst (λ (k : Multipliers). IsLeafLine weigh s s.root k) (sym (mult_first s old new settles.line first settles.tree)) settles.is_line)
    in
    let tried : WeighsOne try s (best_value new.best) (box_of new.tree 0) = subst (λ (b : Range). WeighsOne try s (best_value new.best) b) (sym box) settles.weighed in (
      (settles.weighed).candidate,
      record {
        root_line = subst (λ (k : Multipliers). IsLine weigh s s.root k) (sym settles.root) line;
        leaf_lines = λ i is. subst (λ (k : ℕ). IsLeafLine weigh s (box_of new.tree k) (node_at new.tree.nodes k).mult) (sym (only i (omega (arith, settles.settled, is.settled)))) here;
        cuts = λ i j c l r below is. absurd (no_split i j c l r below is);
        candidates = λ i below. subst (λ (k : ℕ). WeighsOne try s (best_value new.best) (box_of new.tree k)) (sym (only i (omega (arith, settles.settled, below)))) tried;
        first_tried = (settles.weighed).answered;
        first_weighed = (settles.weighed).weighed;
        opened = λ i j c l r below is. absurd (no_split i j c l r below is);
      },
    )
