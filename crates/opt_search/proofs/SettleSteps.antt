-- A search keeps what is always true of it, and what it kept of its guide's answers, when the next leaf is settled.
use Rattle.std.proofs.Common.{◌≡◌, ◌≢◌, ◌⊎◌, inl, inr, ℕ, ◌+◌, ◌<◌, true, false, List, [], ◌∷◌, ◌++◌, length, Option, Some, None, ℤ, refl, ap, sym, ◌∙◌, subst, arith}
use Rattle.std.specs.Prelude.{Contains, IfSome}
use Rattle.std.proofs.lemmas.Int.{ints}
use Rattle.std.proofs.lemmas.List.{length-append, get_or_append_left, get_or-set_same, get_or-set_other}
use Rattle.std.proofs.Math.Seq.{get_or-append_seam}
use Rattle.opt_sums.proofs.EntryLemmas.{same_or_other}
use Rattle.opt_system.specs.Ranges.{Range}
use Rattle.opt_system.specs.Systems.{System, value}
use Rattle.opt_bound.specs.declared.leaf.Leaf.{Leaf}
use Rattle.opt_bound.specs.declared.leaf.Leaf.TheVariants.{Empty, AtLeast}
use Rattle.opt_bound.specs.Multipliers.{Multipliers, IsProper, IsAdmissible}
use Rattle.opt_tree.specs.declared.node.TreeNode.{TreeNode}
use Rattle.opt_tree.specs.Shown.{leaf_at, Known, is_closed}
use Rattle.opt_tree.specs.Nodes.{Tree, IsLeaf, no_node, node_at, box_of, with_mult}
use Rattle.opt_tree.proofs.SameShape.{SameShape, SameShape-with_mult, IsTree-same, same_length, same_box, same_kind}
use Rattle.opt_guide.specs.Relations.{OfMultipliers, OfCandidates, OfCuts}
use Rattle.opt_search.specs.declared.state.Best.{Best}
use Rattle.opt_search.specs.declared.state.State.{State}
use Rattle.opt_search.specs.Guided.{IsOnePoint, IsLine, IsLeafLine, IsCutLine, IsAtMost, WasWeighed, WeighsOne, WasOpen}
use Rattle.opt_search.specs.State.{bound_of_leaf, shown_at, best_value, known_in, IsSettledLeaf, IsOpenLeaf, IsBest, IsSound, IsLed, Falls, Settles, SettlesBox}
use Rattle.opt_search.proofs.SoundSteps.{none_there, none_in}

-- ---- what is known of a leaf's judgement
abbrev known_by : ℤ → ℤ → Option Best → Known
known_by gap root_bound best = record { must_close = true; root_bound = root_bound; best = best_value best; gap = gap }

pub known_same : (gap : ℤ) (old new : State) → new.root_bound ≡ old.root_bound → new.best ≡ old.best → known_in gap new ≡ known_in gap old
known_same gap old new e f = ap (λ (r : ℤ). known_by gap r new.best) e ∙ ap (λ (b : Option Best). known_by gap old.root_bound b) f

-- ---- the next leaf
-- a tree of the same shape has the same leaves
leaf_back : (t u : Tree) (i : ℕ) → SameShape t u → IsLeaf u i → IsLeaf t i
leaf_back t u i same is = record {
  in_tree = omega (arith, same_length t u same, is.in_tree);
  leaf = sym (same_kind t u same i) ∙ is.leaf;
}

pub leaf_on : (t u : Tree) (i : ℕ) → SameShape t u → IsLeaf t i → IsLeaf u i
leaf_on t u i same is = record {
  in_tree = omega (arith, same_length t u same, is.in_tree);
  leaf = same_kind t u same i ∙ is.leaf;
}

-- the next node is settled with these multipliers, which show this; the others are as before
pub record IsNext (old new : State) (node : ℕ) (m : Multipliers) (leaf : Leaf) : Type 0 where
  pub same : SameShape old.tree new.tree
  pub is_leaf : IsLeaf old.tree node
  pub mult_here : (node_at new.tree.nodes node).mult ≡ m
  pub mult_other : (i : ℕ) → i ≢ node → (node_at new.tree.nodes i).mult ≡ (node_at old.tree.nodes i).mult
  pub shown_here : shown_at new.shown.items node ≡ leaf
  pub shown_other : (i : ℕ) → i < node → shown_at new.shown.items i ≡ shown_at old.shown.items i
  pub count_old : length old.shown.items ≡ node
  pub count_new : length new.shown.items ≡ node + 1

pub same_mult : (old new : State) (node : ℕ) (m : Multipliers) → new.tree ≡ with_mult old.tree node m → SameShape old.tree new.tree
same_mult old new node m e = subst (λ (u : Tree). SameShape old.tree u) (sym e) (SameShape-with_mult old.tree node m)

mult_at_node : (old new : State) (node : ℕ) (m : Multipliers) → new.tree ≡ with_mult old.tree node m → node < length old.tree.nodes → (node_at new.tree.nodes node).mult ≡ m
mult_at_node old new node m e below =
    ap (λ (u : Tree). (node_at u.nodes node).mult) e
    ∙ ap (λ (n : TreeNode). n.mult) (get_or-set_same old.tree.nodes node (record { node = (node_at old.tree.nodes node).node; mult = m; link = (node_at old.tree.nodes node).link }) no_node below)

mult_at_other : (old new : State) (node : ℕ) (m : Multipliers) → new.tree ≡ with_mult old.tree node m → (i : ℕ) → i ≢ node → (node_at new.tree.nodes i).mult ≡ (node_at old.tree.nodes i).mult
mult_at_other old new node m e i other =
    ap (λ (u : Tree). (node_at u.nodes i).mult) e
    ∙ ap (λ (n : TreeNode). n.mult) (get_or-set_other old.tree.nodes node i (record { node = (node_at old.tree.nodes node).node; mult = m; link = (node_at old.tree.nodes node).link }) no_node other)

next_of : (gap : ℤ) (old new : State) (node : ℕ) (m : Multipliers) (leaf : Leaf) → Settles gap old new node m leaf → length old.shown.items ≡ node → IsLeaf old.tree node → IsNext old new node m leaf
next_of gap old new node m leaf settles count is_leaf = record {
  same = same_mult old new node m settles.tree;
  is_leaf = is_leaf;
  mult_here = mult_at_node old new node m settles.tree is_leaf.in_tree;
  mult_other = mult_at_other old new node m settles.tree;
  shown_here =
      ap (λ (xs : List Leaf). shown_at xs node) settles.shown
      ∙ ap (λ (k : ℕ). shown_at (old.shown.items ++ leaf ∷ []) k) (sym count)
      ∙ get_or-append_seam old.shown.items leaf [] Empty;
  shown_other = λ i below.
      ap (λ (xs : List Leaf). shown_at xs i) settles.shown ∙ get_or_append_left old.shown.items (leaf ∷ []) Empty i (omega (arith, count, below));
  count_old = count;
  count_new = ap (λ (xs : List Leaf). length xs) settles.shown ∙ length-append old.shown.items (leaf ∷ []) ∙ ap (λ (k : ℕ). k + 1) count;
}

other_than : (i node : ℕ) → i < node → i ≢ node
other_than i node below e = absurd (omega arith)

below_next : (i node : ℕ) → i < node + 1 → i ≢ node → i < node
below_next i node h other = grind arith

old_settled : (old new : State) (node : ℕ) → SameShape old.tree new.tree → length old.shown.items ≡ node → length new.shown.items ≡ node + 1 → (i : ℕ) → i ≢ node → IsSettledLeaf new i → IsSettledLeaf old i
old_settled old new node same count_old count_new i other h =
    let below : i < node = below_next i node (omega (arith, count_new, h.settled)) other in
    record { leaf = leaf_back old.tree new.tree i same h.leaf; settled = omega (arith, count_old, below) }

-- what holds of the new leaf and of each that was settled holds of each that is settled
each_settled : (old new : State) (node : ℕ) → SameShape old.tree new.tree → length old.shown.items ≡ node → length new.shown.items ≡ node + 1 → (P : ℕ → Type 0) → P node → ((i : ℕ) → IsSettledLeaf old i → P i) → (i : ℕ) → IsSettledLeaf new i → P i
each_settled old new node same count_old count_new P here others i h =
    elim (same_or_other i node) [
      | inl e ↦ subst (λ (k : ℕ). P k) (sym e) here
      | inr e ↦ others i (old_settled old new node same count_old count_new i e h)
    ]

each_of : (old new : State) (node : ℕ) (m : Multipliers) (leaf : Leaf) → IsNext old new node m leaf → (P : ℕ → Type 0) → P node → ((i : ℕ) → IsSettledLeaf old i → P i) → (i : ℕ) → IsSettledLeaf new i → P i
each_of old new node m leaf next P here others i h = each_settled old new node next.same next.count_old next.count_new P here others i h

was_below : (old : State) (node i : ℕ) → length old.shown.items ≡ node → IsSettledLeaf old i → i < node
was_below old node i count h = omega (arith, count, h.settled)

settled_on : (old new : State) (node : ℕ) (m : Multipliers) (leaf : Leaf) → IsNext old new node m leaf → (i : ℕ) → IsSettledLeaf old i → IsSettledLeaf new i
settled_on old new node m leaf next i h = record {
  leaf = leaf_on old.tree new.tree i next.same h.leaf;
  settled = omega (arith, next.count_old, next.count_new, h.settled);
}

settled_here : (old new : State) (node : ℕ) (m : Multipliers) (leaf : Leaf) → IsNext old new node m leaf → IsSettledLeaf new node
settled_here old new node m leaf next = record {
  leaf = leaf_on old.tree new.tree node next.same next.is_leaf;
  settled = omega (arith, next.count_new);
}

not_at_least : {leaf : Leaf} {b : ℤ} → leaf ≡ Empty → leaf ≡ AtLeast b → ⊥
not_at_least e f = cc

-- the next leaf settled: its multipliers are admissible, show this of its box, and close a box of one point
pub record IsFit (s : System) (gap : ℤ) (old : State) (node : ℕ) (m : Multipliers) (leaf : Leaf) : Type 0 where
  pub count : length old.shown.items ≡ node
  pub is_leaf : IsLeaf old.tree node
  pub proper : IsProper m
  pub admissible : IsAdmissible s m
  pub shows : leaf ≡ leaf_at s (box_of old.tree node) m
  pub closed : IsOnePoint (box_of old.tree node) → is_closed (known_in gap old) leaf ≡ true
  pub empty : leaf_at s s.root old.root ≡ Empty → leaf ≡ Empty

pub sound_settle : (s : System) (gap : ℤ) (old new : State) (node : ℕ) (m : Multipliers) (leaf : Leaf) → IsSound s gap old → Settles gap old new node m leaf → IsFit s gap old node m leaf → IsSound s gap new
sound_settle s gap old new node m leaf sound settles fit =
    let next : IsNext old new node m leaf = next_of gap old new node m leaf settles fit.count fit.is_leaf in
    let known : known_in gap new ≡ known_in gap old = known_same gap old new settles.root_bound settles.best in
    record {
      limited = sound.limited;
      tree = IsTree-same old.tree new.tree next.same sound.tree;
      same_root = next.same.root ∙ sound.same_root;
      root_proper = subst (λ (k : Multipliers). IsProper k) (sym settles.root) sound.root_proper;
      root_admissible = subst (λ (k : Multipliers). IsAdmissible s k) (sym settles.root) sound.root_admissible;
      root_empty = λ h.
          let was : leaf_at s s.root old.root ≡ Empty = ap (leaf_at s s.root) (sym settles.root) ∙ h in
          none_there new.open_leaves (λ b i c. elim ((settles.open_leaves b i).0 c) [
            | inl before ↦ none_in b i (subst (λ (xs : List (ℤ × ℕ)). Contains xs (b, i)) (sound.root_empty was) before)
            | inr now ↦ not_at_least (fit.empty was) now.1
          ]);
      root_bound_is = settles.root_bound ∙ sound.root_bound_is ∙ ap (λ (k : Multipliers). bound_of_leaf (leaf_at s s.root k)) (sym settles.root);
      settled = omega (arith, next.count_new, same_length old.tree new.tree next.same, fit.is_leaf.in_tree);
      proper =
          each_of old new node m leaf next (λ (i : ℕ). IsProper (node_at new.tree.nodes i).mult)
          (subst (λ (k : Multipliers). IsProper k) (sym next.mult_here) fit.proper)
          (λ i was. subst (λ (k : Multipliers). IsProper k) (sym (next.mult_other i (other_than i node (was_below old node i fit.count was)))) (sound.proper i was));
      admissible =
          each_of old new node m leaf next (λ (i : ℕ). IsAdmissible s (node_at new.tree.nodes i).mult)
          (subst (λ (k : Multipliers). IsAdmissible s k) (sym next.mult_here) fit.admissible)
          (λ i was. subst (λ (k : Multipliers). IsAdmissible s k) (sym (next.mult_other i (other_than i node (was_below old node i fit.count was)))) (sound.admissible i was));
      shown_is =
          each_of old new node m leaf next (λ (i : ℕ). shown_at new.shown.items i ≡ leaf_at s (box_of new.tree i) (node_at new.tree.nodes i).mult)
          (next.shown_here
          ∙ fit.shows
          ∙ ap (λ (k : Multipliers). leaf_at s (box_of old.tree node) k) (sym next.mult_here)
          ∙ ap (λ (b : Range). leaf_at s b (node_at new.tree.nodes node).mult) (sym (same_box old.tree new.tree next.same node)))
          (λ i was.
          next.shown_other i (was_below old node i fit.count was)
          ∙ sound.shown_is i was
          ∙ ap (λ (k : Multipliers). leaf_at s (box_of old.tree i) k) (sym (next.mult_other i (other_than i node (was_below old node i fit.count was))))
          ∙ ap (λ (b : Range). leaf_at s b (node_at new.tree.nodes i).mult) (sym (same_box old.tree new.tree next.same i)));
      points_closed =
          each_of old new node m leaf next (λ (i : ℕ). IsOnePoint (box_of new.tree i) → is_closed (known_in gap new) (shown_at new.shown.items i) ≡ true)
          (λ one.
          ap (λ (k : Known). is_closed k (shown_at new.shown.items node)) known
          ∙ ap (λ (l : Leaf). is_closed (known_in gap old) l) next.shown_here
          ∙ fit.closed (subst (λ (b : Range). IsOnePoint b) (same_box old.tree new.tree next.same node) one))
          (λ i was one.
          ap (λ (k : Known). is_closed k (shown_at new.shown.items i)) known
          ∙ ap (λ (l : Leaf). is_closed (known_in gap old) l) (next.shown_other i (was_below old node i fit.count was))
          ∙ sound.points_closed i was (subst (λ (b : Range). IsOnePoint b) (same_box old.tree new.tree next.same i) one));
      open_are = λ b i. (
        λ h. elim ((settles.open_leaves b i).0 h) [
          | inl before ↦
              let was : IsOpenLeaf gap old b i = (sound.open_are b i).0 before in
              record {
                leaf = settled_on old new node m leaf next i was.leaf;
                shown = next.shown_other i (was_below old node i fit.count was.leaf) ∙ was.shown;
                open_still = ap (λ (k : Known). is_closed k (AtLeast b)) known ∙ was.open_still;
              }
          | inr now ↦
              let here : IsOpenLeaf gap new b node = record {
                leaf = settled_here old new node m leaf next;
                shown = next.shown_here ∙ now.1;
                open_still = ap (λ (k : Known). is_closed k (AtLeast b)) known ∙ now.2;
              } in
              subst (λ (k : ℕ). IsOpenLeaf gap new b k) (sym now.0) here
        ],
        λ h.
            let unclosed : is_closed (known_in gap old) (AtLeast b) ≡ false = ap (λ (k : Known). is_closed k (AtLeast b)) (sym known) ∙ h.open_still in
            (settles.open_leaves b i).1 (
            each_of old new node m leaf next
            (λ (k : ℕ). shown_at new.shown.items k ≡ AtLeast b → Contains old.open_leaves (b, k) ⊎ ((k ≡ node) × (leaf ≡ AtLeast b) × (is_closed (known_in gap old) (AtLeast b) ≡ false)))
            (λ shows. inr (refl, sym next.shown_here ∙ shows, unclosed))
            (λ k was shows. inl ((sound.open_are b k).1 (record {
              leaf = was;
              shown = sym (next.shown_other k (was_below old node k fit.count was)) ∙ shows;
              open_still = unclosed;
            })))
            i h.leaf h.shown),
      );
      best_is = subst (λ (b : Option Best). IfSome b (IsBest s)) (sym settles.best) sound.best_is;
    }

-- ---- the guide
at_most_falls : (old new : Option ℤ) (v : ℤ) → Falls old new → IsAtMost old v → IsAtMost new v
at_most_falls None new v falls h = absurd h
at_most_falls (Some o) None v falls h = absurd falls
at_most_falls (Some o) (Some n) v falls h = omega (arith, ints, falls, h)

-- what was weighed stays weighed
pub weighed_falls : (s : System) (old new : Option ℤ) (x : Option (List ℤ)) → Falls old new → WasWeighed s old x → WasWeighed s new x
weighed_falls s old new None falls h = tt
weighed_falls s old new (Some x) falls h = λ meets. at_most_falls old new (value s x) falls (h meets)

pub falls_twice : (a b c : Option ℤ) → Falls a b → Falls b c → Falls a c
falls_twice None b c f g = tt
falls_twice (Some a) b c f g = at_most_falls b c a g f

pub weighs_falls : (try : OfCandidates) (s : System) (old new : Option ℤ) (box : Range) → Falls old new → WeighsOne try s old box → WeighsOne try s new box
weighs_falls try s old new box falls h = record { candidate = h.candidate; answered = h.answered; weighed = weighed_falls s old new h.candidate falls h.weighed }

pub led_settle : (weigh : OfMultipliers) (try : OfCandidates) (cut : OfCuts) (s : System) (gap : ℤ) (first : Option (List ℤ)) (old new : State) (node : ℕ) → IsLed weigh try cut s gap first old → SettlesBox weigh try s old new node (box_of old.tree node) → length old.shown.items ≡ node → IsLeaf old.tree node → IsLed weigh try cut s gap first new
led_settle weigh try cut s gap first old new node led settles count is_leaf =
    let same : SameShape old.tree new.tree = same_mult old new node settles.line settles.tree in
    let here : IsLeafLine weigh s (box_of new.tree node) (node_at new.tree.nodes node).mult =
    subst (λ (b : Range). IsLeafLine weigh s b (node_at new.tree.nodes node).mult) (sym (same_box old.tree new.tree same node))
    (subst (λ (k : Multipliers). IsLeafLine weigh s (box_of old.tree node) k) (sym (mult_at_node old new node settles.line settles.tree is_leaf.in_tree)) settles.is_line)
    in
    record {
      root_line = subst (λ (k : Multipliers). IsLine weigh s s.root k) (sym settles.root) led.root_line;
      leaf_lines =
          each_settled old new node same count settles.settled (λ (i : ℕ). IsLeafLine weigh s (box_of new.tree i) (node_at new.tree.nodes i).mult) here
          (λ i was.
          subst (λ (b : Range). IsLeafLine weigh s b (node_at new.tree.nodes i).mult) (sym (same_box old.tree new.tree same i))
          (subst (λ (k : Multipliers). IsLeafLine weigh s (box_of old.tree i) k) (sym (mult_at_other old new node settles.line settles.tree i (other_than i node (was_below old node i count was)))) (led.leaf_lines i was)));
      cuts = λ i j c l r below is.
          subst (λ (b : Range). IsCutLine cut s b j c) (sym (same_box old.tree new.tree same i))
          (led.cuts i j c l r (omega (arith, same_length old.tree new.tree same, below)) (sym (same_kind old.tree new.tree same i) ∙ is));
      candidates = λ i below. subst (λ (b : Range). WeighsOne try s (best_value new.best) b) (sym (same_box old.tree new.tree same i)) (
          elim (same_or_other i node) [
            | inl e ↦ subst (λ (k : ℕ). WeighsOne try s (best_value new.best) (box_of old.tree k)) (sym e) settles.weighed
            | inr e ↦ weighs_falls try s (best_value old.best) (best_value new.best) (box_of old.tree i) settles.falls (led.candidates i (omega (arith, count, below_next i node (omega (arith, settles.settled, below)) e)))
          ]);
      first_tried = led.first_tried;
      first_weighed = weighed_falls s (best_value old.best) (best_value new.best) first settles.falls led.first_weighed;
      opened = λ i j c l r below is.
          subst (λ (b : Range). WasOpen weigh s gap new.root_bound first b) (sym (same_box old.tree new.tree same i))
          (subst (λ (rb : ℤ). WasOpen weigh s gap rb first (box_of old.tree i)) (sym settles.root_bound)
          (led.opened i j c l r (omega (arith, same_length old.tree new.tree same, below)) (sym (same_kind old.tree new.tree same i) ∙ is)));
    }
