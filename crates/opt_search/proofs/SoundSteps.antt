-- Each step of a search keeps what is always true of it: a better point, a settled leaf, a split.
use Rattle.std.proofs.Common.{◌≡◌, ℕ, ◌<◌, ◌≤◌, true, false, List, [], ◌∷◌, length, Option, Some, None, ℤ, refl, ap, sym, ◌∙◌, subst, arith}
use Rattle.std.specs.Prelude.{Contains, IfSome}
use Rattle.std.specs.Int.{int_max}
use Rattle.std.proofs.lemmas.Int.{ints}
use Rattle.opt_system.specs.Systems.{System}
use Rattle.opt_bound.specs.declared.leaf.Leaf.{Leaf}
use Rattle.opt_bound.specs.declared.leaf.Leaf.TheVariants.{Empty, AtLeast}
use Rattle.opt_bound.specs.Multipliers.{Multipliers, IsProper, IsAdmissible}
use Rattle.opt_tree.specs.Shown.{leaf_at, Known, is_closed, is_reached}
use Rattle.opt_tree.specs.Nodes.{Tree, IsTree, IsLeaf, node_at, box_of}
use Rattle.opt_search.specs.declared.state.Best.{Best}
use Rattle.opt_search.specs.declared.state.State.{State}
use Rattle.opt_search.specs.Guided.{IsOnePoint}
use Rattle.opt_search.specs.State.{bound_of_leaf, shown_at, best_value, known_in, IsSettledLeaf, IsOpenLeaf, IsBest, IsSound, IsBeaten, Falls, KeepsTree, KeepsUnreached}

-- ---- what a lower best value changes
beaten_unreached : (old : Option ℤ) (v gap x : ℤ) → IsBeaten old v → is_reached (Some v) gap x ≡ false → is_reached old gap x ≡ false
beaten_unreached None v gap x beaten h = refl
beaten_unreached (Some b) v gap x beaten h = grind (arith, ints)

beaten_reached : (old : Option ℤ) (v gap x : ℤ) → IsBeaten old v → is_reached old gap x ≡ true → is_reached (Some v) gap x ≡ true
beaten_reached None v gap x beaten h = cc
beaten_reached (Some b) v gap x beaten h = grind (arith, ints)

-- a best value that is beaten falls, and the new one is at most itself
pub falls_beaten : (old : Option ℤ) (v : ℤ) → IsBeaten old v → Falls old (Some v)
falls_beaten None v h = tt
falls_beaten (Some b) v h = omega (arith, ints, h)

-- a leaf that is closed stays closed
closed_stays : (old new : Known) (v : ℤ) (leaf : Leaf) → new.root_bound ≡ old.root_bound → new.gap ≡ old.gap → new.best ≡ Some v → IsBeaten old.best v → is_closed old leaf ≡ true → is_closed new leaf ≡ true
closed_stays old new v Empty root gap best beaten h = refl
closed_stays old new v (AtLeast b) root gap best beaten h =
    rw (root, gap, best) (beaten_reached old.best v old.gap (int_max old.root_bound b) beaten h)

-- ---- settled leaves
settled_back : (old new : State) (i : ℕ) → new.tree ≡ old.tree → new.shown.items ≡ old.shown.items → IsSettledLeaf new i → IsSettledLeaf old i
settled_back old new i tree shown h = record {
  leaf = subst (λ (u : Tree). IsLeaf u i) tree h.leaf;
  settled = subst (λ (xs : List Leaf). i < length xs) shown h.settled;
}

-- a list without a member is empty
pub none_there : (xs : List (ℤ × ℕ)) → ((b : ℤ) (i : ℕ) → Contains xs (b, i) → ⊥) → xs ≡ []
none_there [] h = refl
none_there (x ∷ xs) h = absurd (h x.0 x.1 (0, omega arith, refl))

pub none_in : (b : ℤ) (i : ℕ) → Contains {X = ℤ × ℕ} [] (b, i) → ⊥
none_in b i h = absurd (omega (arith, h.1))

-- a point that meets the system and is better becomes the best one, and the leaves that it closes are open no longer
pub sound_better : (s : System) (gap : ℤ) (old new : State) (best : Best) → IsSound s gap old → KeepsTree old new → new.best ≡ Some best → IsBest s best → IsBeaten (best_value old.best) best.value → KeepsUnreached gap old.root_bound best.value old.open_leaves new.open_leaves → IsSound s gap new
sound_better s gap old new best sound keeps best_is is_best beaten kept =
    let value_is : best_value new.best ≡ Some best.value = ap best_value best_is in
    record {
      limited = sound.limited;
      tree = subst (λ (u : Tree). IsTree u) (sym keeps.tree) sound.tree;
      same_root = ap (λ (u : Tree). u.root) keeps.tree ∙ sound.same_root;
      root_proper = subst (λ (m : Multipliers). IsProper m) (sym keeps.root) sound.root_proper;
      root_admissible = subst (λ (m : Multipliers). IsAdmissible s m) (sym keeps.root) sound.root_admissible;
      root_empty = λ h.
          let were : old.open_leaves ≡ [] = sound.root_empty (ap (leaf_at s s.root) (sym keeps.root) ∙ h) in
          none_there new.open_leaves (λ b i h. none_in b i (subst (λ (xs : List (ℤ × ℕ)). Contains xs (b, i)) were ((kept b i).0 h).0));
      root_bound_is = keeps.root_bound ∙ sound.root_bound_is ∙ ap (λ (m : Multipliers). bound_of_leaf (leaf_at s s.root m)) (sym keeps.root);
      settled = subst (λ (xs : List Leaf). length xs ≤ length new.tree.nodes) (sym keeps.shown) (subst (λ (u : Tree). length old.shown.items ≤ length u.nodes) (sym keeps.tree) sound.settled);
      proper = λ i h. subst (λ (u : Tree). IsProper (node_at u.nodes i).mult) (sym keeps.tree) (sound.proper i (settled_back old new i keeps.tree keeps.shown h));
      admissible = λ i h. subst (λ (u : Tree). IsAdmissible s (node_at u.nodes i).mult) (sym keeps.tree) (sound.admissible i (settled_back old new i keeps.tree keeps.shown h));
      shown_is = λ i h.
          ap (λ (xs : List Leaf). shown_at xs i) keeps.shown
          ∙ sound.shown_is i (settled_back old new i keeps.tree keeps.shown h)
          ∙ ap (λ (u : Tree). leaf_at s (box_of u i) (node_at u.nodes i).mult) (sym keeps.tree);
      points_closed = λ i h one.
          closed_stays (known_in gap old) (known_in gap new) best.value (shown_at new.shown.items i) keeps.root_bound refl value_is beaten
          (subst (λ (xs : List Leaf). is_closed (known_in gap old) (shown_at xs i) ≡ true) (sym keeps.shown)
          (sound.points_closed i (settled_back old new i keeps.tree keeps.shown h) (subst (λ (u : Tree). IsOnePoint (box_of u i)) keeps.tree one)));
      open_are = λ b i. (
        λ h.
            let was : IsOpenLeaf gap old b i = (sound.open_are b i).0 ((kept b i).0 h).0 in
            record {
              leaf = settled_back new old i (sym keeps.tree) (sym keeps.shown) was.leaf;
              shown = ap (λ (xs : List Leaf). shown_at xs i) keeps.shown ∙ was.shown;
              open_still = rw (keeps.root_bound, value_is) (((kept b i).0 h).1);
            },
        λ h.
            let unreached : is_reached (Some best.value) gap (int_max old.root_bound b) ≡ false =
            ap (λ (r : ℤ). is_reached (Some best.value) gap (int_max r b)) (sym keeps.root_bound)
            ∙ ap (λ (v : Option ℤ). is_reached v gap (int_max new.root_bound b)) (sym value_is)
            ∙ h.open_still
            in
            (kept b i).1 (
              (sound.open_are b i).1 (record {
                leaf = settled_back old new i keeps.tree keeps.shown h.leaf;
                shown = ap (λ (xs : List Leaf). shown_at xs i) (sym keeps.shown) ∙ h.shown;
                open_still = beaten_unreached (best_value old.best) best.value gap (int_max old.root_bound b) beaten unreached;
              }),
              unreached,
            ),
      );
      best_is = subst (λ (b : Option Best). IfSome b (IsBest s)) (sym best_is) is_best;
    }
