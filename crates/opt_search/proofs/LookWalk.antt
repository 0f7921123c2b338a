-- Looking through the tree that a list of nodes makes sees each of its leaves, by the leaf's number.
use Rattle.std.proofs.Common.{◌≡◌, ◌⊎◌, inl, inr, ℕ, suc, ◌+◌, ◌<◌, Bool, true, false, cond, not, ◌&&◌, ◌||◌, nat_lt, length, Option, Some, None, Ok, Err, Result, ℤ, ◌≤ℤ◌, ◌<ℤ◌, int_le, int_lt, refl, ap, sym, ◌∙◌, arith}
use Rattle.std.specs.Int.{int_min}
use Rattle.std.proofs.lemmas.Int.{ints, clamps}
use Rattle.std.proofs.lemmas.Bool.Decides.{nat_tests}
use Rattle.opt_base.specs.Answers.{◌>>=◌}
use Rattle.opt_sums.specs.Sums.{at}
use Rattle.opt_system.specs.Ranges.{Range}
use Rattle.opt_system.specs.Cuts.{IsCut, is_cut, left_half, right_half}
use Rattle.opt_system.specs.Systems.{System}
use Rattle.opt_bound.specs.declared.fault.EntryFault.{EntryFault}
use Rattle.opt_bound.specs.declared.leaf.Leaf.{Leaf}
use Rattle.opt_bound.specs.declared.leaf.Leaf.TheVariants.{Empty, AtLeast}
use Rattle.opt_bound.specs.Multipliers.{Multipliers, IsAdmissible}
use Rattle.opt_bound.proofs.FaultLemmas.{no_fault}
use Rattle.opt_tree.specs.declared.check_fault.CheckFault.{CheckFault}
use Rattle.opt_tree.specs.declared.check_fault.CheckFault.TheVariants.{CutRange, LeafOpen}
use Rattle.opt_tree.specs.declared.node.Node.TheVariants.{Split}
use Rattle.opt_tree.specs.Trees.{BoxTree, leaf, split, node_count}
use Rattle.opt_tree.specs.Nodes.{Tree, IsTree, IsLeaf, IsSplit, node_at, box_of, tree_of}
use Rattle.opt_tree.specs.Shown.{Known, Seen, nothing_seen, leaf_at, is_closed, least_with, with_split, with_leaf, shown_bound, judge_leaf, unless_wrong, look_leaf, look_cut, look}
use Rattle.opt_tree.proofs.BoxLemmas.{box_of-left, box_of-right}
use Rattle.opt_tree.proofs.LeafSums.{node_count-tree_of}
use Rattle.opt_tree.proofs.LookTrue.{Bounds}
use Rattle.opt_search.proofs.TreeWalk.{IsUnder, walk, under_leaf, under_split, under_root}
use Rattle.opt_search.proofs.TreeNumbers.{box_of-first}

-- what the multipliers of node i show of its box
abbrev pub shows : System → Tree → ℕ → Leaf
shows s t i = leaf_at s (box_of t i) (node_at t.nodes i).mult

-- no leaf has a fault
pub record IsFaultless (s : System) (k : Known) (t : Tree) : Type 0 where
  pub admissible : (i : ℕ) → IsLeaf t i → IsAdmissible s (node_at t.nodes i).mult
  pub closed : (i : ℕ) → IsLeaf t i → k.must_close ≡ true → is_closed k (shows s t i) ≡ true

-- a leaf shows this bound
pub record IsShownBound (s : System) (t : Tree) (b : ℤ) : Type 0 where
  pub node : ℕ
  pub leaf : IsLeaf t node
  pub shown : shows s t node ≡ AtLeast b

-- what is seen of the tree at node i
pub record Sees (s : System) (k : Known) (t : Tree) (d i count : ℕ) (before after : Seen) : Type 0 where
  pub nodes : after.nodes ≡ before.nodes + count
  pub lowers : (a : ℤ) → Bounds before.least a → Bounds after.least a
  pub bounds : (n : ℕ) (a : ℤ) → IsLeaf t n → IsUnder t d i n → shows s t n ≡ AtLeast a → Bounds after.least a
  pub attained : (b : ℤ) → after.least ≡ Some b → (before.least ≡ Some b) ⊎ IsShownBound s t b
  pub keeps_open : before.any_open ≡ true → after.any_open ≡ true
  pub opens : (n : ℕ) → IsLeaf t n → IsUnder t d i n → is_closed k (shows s t n) ≡ false → after.any_open ≡ true

-- the look ends without a fault, and sees this
pub record Looks (s : System) (k : Known) (t : Tree) (d i : ℕ) (u : BoxTree) (before : Seen) : Type 0 where
  pub after : Seen
  pub looked : look s k before (box_of t i) u ≡ Ok after
  pub sees : Sees s k t d i (node_count u) before after

-- ---- a leaf
record AddsLeaf (k : Known) (before : Seen) (l : Leaf) (after : Seen) : Type 0 where
  nodes : after.nodes ≡ before.nodes + 1
  lowers : (a : ℤ) → Bounds before.least a → Bounds after.least a
  bounds : (a : ℤ) → l ≡ AtLeast a → Bounds after.least a
  attained : (b : ℤ) → after.least ≡ Some b → (before.least ≡ Some b) ⊎ (l ≡ AtLeast b)
  keeps_open : before.any_open ≡ true → after.any_open ≡ true
  opens : is_closed k l ≡ false → after.any_open ≡ true

or_left : (a b : Bool) → a ≡ true → (a || b) ≡ true
or_left true b h = refl
or_left false b h = cc

or_right : (a b : Bool) → b ≡ false → (a || not b) ≡ true
or_right true b h = refl
or_right false true h = cc
or_right false false h = refl

lowers_with : (least : Option ℤ) (b a : ℤ) → Bounds least a → Bounds (Some (least_with least b)) a
lowers_with None b a h = absurd h
lowers_with (Some m) b a h = omega (arith, ints, clamps)

bounds_with : (least : Option ℤ) (b a : ℤ) → b ≡ a → Bounds (Some (least_with least b)) a
bounds_with None b a h = omega (arith, ints)
bounds_with (Some m) b a h = omega (arith, ints, clamps)

attained_with : (least : Option ℤ) (a b : ℤ) → least_with least a ≡ b → (least ≡ Some b) ⊎ (a ≡ b)
attained_with None a b h = inr h
attained_with (Some m) a b h =
    elim (either m a) [
      | inl e ↦ inl (ap Some (sym e ∙ h))
      | inr e ↦ inr (sym e ∙ h)
    ]
  where
    order : (m a : ℤ) → (m ≤ℤ a) ⊎ (a <ℤ m)
    order m a = grind (arith, ints)

    either : (m a : ℤ) → (int_min m a ≡ m) ⊎ (int_min m a ≡ a)
    either m a = elim (order m a) [
      | inl h ↦ inl (omega (arith, ints, clamps))
      | inr h ↦ inr (omega (arith, ints, clamps))
    ]

adds_leaf : (k : Known) (before : Seen) (l : Leaf) → AddsLeaf k before l (with_leaf k before l)
adds_leaf k before Empty = record {
  nodes = refl;
  lowers = λ a h. h;
  bounds = λ a e. absurd (not_empty a e);
  attained = λ b e. inl e;
  keeps_open = λ h. h;
  opens = λ h. absurd (not_false h);
}
  where
    not_empty : (a : ℤ) → Empty ≡ AtLeast a → ⊥
    not_empty a e = cc

    not_false : true ≡ false → ⊥
    not_false e = cc
adds_leaf k before (AtLeast c) = record {
  nodes = refl;
  lowers = λ a h. lowers_with before.least c a h;
  bounds = λ a e. bounds_with before.least c a (same_bound c a e);
  attained = λ b e. elim (attained_with before.least c b (same_some _ b e)) [
    | inl p ↦ inl p
    | inr p ↦ inr (ap AtLeast p)
  ];
  keeps_open = λ h. or_left before.any_open (not (is_closed k (AtLeast c))) h;
  opens = λ h. or_right before.any_open (is_closed k (AtLeast c)) h;
}
  where
    same_bound : (c a : ℤ) → AtLeast c ≡ AtLeast a → c ≡ a
    same_bound c a e = cc

    same_some : (a b : ℤ) → Some a ≡ Some b → a ≡ b
    same_some a b e = cc

passes : (must closed : Bool) → (must ≡ true → closed ≡ true) → (must && not closed) ≡ false
passes true true h = refl
passes true false h = let e : false ≡ true = h refl in cc
passes false closed h = refl

judged : (k : Known) (before : Seen) (l : Leaf) → (k.must_close ≡ true → is_closed k l ≡ true) → judge_leaf k before l ≡ Ok (with_leaf k before l)
judged k before l h =
    let fault : Result Seen CheckFault = Err (LeafOpen before.nodes (shown_bound k l)) in
    ap (λ b. cond b fault (Ok (with_leaf k before l))) (passes k.must_close (is_closed k l) h)

looked_leaf : (s : System) (k : Known) (before : Seen) (box : Range) (m : Multipliers) → IsAdmissible s m → (k.must_close ≡ true → is_closed k (leaf_at s box m) ≡ true) → look_leaf s k before box m ≡ Ok (with_leaf k before (leaf_at s box m))
looked_leaf s k before box m admissible closed =
    ap (λ (r : Option EntryFault). unless_wrong r before.nodes m >>= λ y. judge_leaf k before (leaf_at s box y)) (no_fault s m.entries admissible)
    ∙ judged k before (leaf_at s box m) closed

looks_leaf : (s : System) (k : Known) (t : Tree) → IsFaultless s k t → (d i : ℕ) → IsLeaf t i → (before : Seen) → Looks s k t (suc d) i (leaf (node_at t.nodes i).mult) before
looks_leaf s k t faultless d i is before =
    let adds : AddsLeaf k before (shows s t i) (with_leaf k before (shows s t i)) = adds_leaf k before (shows s t i) in
    record {
      after = with_leaf k before (shows s t i);
      looked = looked_leaf s k before (box_of t i) (node_at t.nodes i).mult (faultless.admissible i is) (faultless.closed i is);
      sees = record {
        nodes = adds.nodes;
        lowers = adds.lowers;
        bounds = λ n a is_leaf under e. adds.bounds a (ap (shows s t) (under_leaf t d i n is under) ∙ e);
        attained = λ b e. elim (adds.attained b e) [
          | inl p ↦ inl p
          | inr p ↦ inr (record { node = i; leaf = is; shown = p })
        ];
        keeps_open = adds.keeps_open;
        opens = λ n is_leaf under e. adds.opens (ap (λ m. is_closed k (shows s t m)) (under_leaf t d i n is under) ∙ e);
      };
    }

-- ---- a split
cut_test : (box : Range) (j : ℕ) (c : ℤ) → IsCut box j c → is_cut box j c ≡ true
cut_test box j c cut = three (nat_lt j (length box.low)) (int_le (at box.low j) c) (int_lt c (at box.high j)) (first j (length box.low) cut.quantity) (second (at box.low j) c cut.from_low) (third c (at box.high j) cut.below_high)
  where
    three : (a b c : Bool) → a ≡ true → b ≡ true → c ≡ true → (a && (b && c)) ≡ true
    three true true true p q r = refl
    three true true false p q r = cc
    three true false c p q r = cc
    three false b c p q r = cc

    first : (a b : ℕ) → a < b → nat_lt a b ≡ true
    first a b h = grind (arith, nat_tests)

    second : (a b : ℤ) → a ≤ℤ b → int_le a b ≡ true
    second a b h = grind (arith, ints)

    third : (a b : ℤ) → a <ℤ b → int_lt a b ≡ true
    third a b h = grind (arith, ints)

looked_cut : (before : Seen) (box : Range) (j : ℕ) (c : ℤ) → IsCut box j c → look_cut before box j c ≡ Ok (with_split before)
looked_cut before box j c cut =
    let fault : Result Seen CheckFault = Err (CutRange before.nodes) in
    ap (λ b. cond b (Ok (with_split before)) fault) (cut_test box j c cut)

looked_split : (s : System) (k : Known) (before a b : Seen) (box : Range) (j : ℕ) (c : ℤ) (u v : BoxTree) → IsCut box j c → look s k (with_split before) (left_half box j c) u ≡ Ok a → look s k a (right_half box j c) v ≡ Ok b → look s k before box (split j c u v) ≡ Ok b
looked_split s k before a b box j c u v cut left right =
    ap (λ (r : Result Seen CheckFault). r >>= λ z. look s k z (left_half box j c) u >>= λ y. look s k y (right_half box j c) v) (looked_cut before box j c cut)
    ∙ ap (λ (r : Result Seen CheckFault). r >>= λ y. look s k y (right_half box j c) v) left
    ∙ right

sees_split : (s : System) (k : Known) (t : Tree) (d i j : ℕ) (c : ℤ) (l r m n : ℕ) (before a b : Seen) → (node_at t.nodes i).node ≡ Split j c l r → Sees s k t d l m (with_split before) a → Sees s k t d r n a b → Sees s k t (suc d) i (1 + m + n) before b
sees_split s k t d i j c l r m n before a b kind left right = record {
  nodes = omega (arith, left.nodes, right.nodes);
  lowers = λ z h. right.lowers z (left.lowers z h);
  bounds = λ p z is_leaf under e. elim (under_split t d i p j c l r kind is_leaf under) [
    | inl w ↦ right.lowers z (left.bounds p z is_leaf w e)
    | inr w ↦ right.bounds p z is_leaf w e
  ];
  attained = λ z e. elim (right.attained z e) [
    | inl w ↦ left.attained z w
    | inr w ↦ inr w
  ];
  keeps_open = λ h. right.keeps_open (left.keeps_open h);
  opens = λ p is_leaf under e. elim (under_split t d i p j c l r kind is_leaf under) [
    | inl w ↦ right.keeps_open (left.opens p is_leaf w e)
    | inr w ↦ right.opens p is_leaf w e
  ];
}

looks_split : (s : System) (k : Known) (t : Tree) (d i j : ℕ) (c : ℤ) (l r : ℕ) (u v : BoxTree) → i < length t.nodes → (node_at t.nodes i).node ≡ Split j c l r → IsSplit t i j c l r → ((before : Seen) → Looks s k t d l u before) → ((before : Seen) → Looks s k t d r v before) → (before : Seen) → Looks s k t (suc d) i (split j c u v) before
looks_split s k t d i j c l r u v below kind is on_left on_right before =
    let left : Looks s k t d l u (with_split before) = on_left (with_split before) in
    let right : Looks s k t d r v left.after = on_right left.after in
    record {
      after = right.after;
      looked = looked_split s k before left.after right.after (box_of t i) j c u v is.cut
          (ap (λ (b : Range). look s k (with_split before) b u) (sym (box_of-left t i j c l r is)) ∙ left.looked)
          (ap (λ (b : Range). look s k left.after b v) (sym (box_of-right t i j c l r is)) ∙ right.looked);
      sees = sees_split s k t d i j c l r (node_count u) (node_count v) before left.after right.after kind left.sees right.sees;
    }

-- ---- the whole tree
-- what is seen of all nodes
pub record SeesAll (s : System) (k : Known) (t : Tree) (seen : Seen) : Type 0 where
  pub nodes : seen.nodes ≡ length t.nodes
  pub bounds : (n : ℕ) (a : ℤ) → IsLeaf t n → shows s t n ≡ AtLeast a → Bounds seen.least a
  pub attained : (b : ℤ) → seen.least ≡ Some b → IsShownBound s t b
  pub opens : (n : ℕ) → IsLeaf t n → is_closed k (shows s t n) ≡ false → seen.any_open ≡ true

pub look_tree : (s : System) (k : Known) (t : Tree) → IsTree t → IsFaultless s k t → (seen : Seen) × (look s k nothing_seen t.root (tree_of t) ≡ Ok seen) × SeesAll s k t seen
look_tree s k t tree faultless =
    let n : ℕ = length t.nodes in
    let all : Looks s k t n 0 (tree_of t) nothing_seen =
    walk t (λ d i u. (before : Seen) → Looks s k t d i u before) tree (looks_leaf s k t faultless) (looks_split s k t) n 0 tree.has_root (omega arith) nothing_seen
    in
    let under : (i : ℕ) → IsLeaf t i → IsUnder t n 0 i = λ i is_leaf. under_root t i tree is_leaf.in_tree in (
      all.after,
      ap (λ (b : Range). look s k nothing_seen b (tree_of t)) (sym (box_of-first t tree)) ∙ all.looked,
      record {
        nodes = omega (arith, all.sees.nodes, node_count-tree_of t tree);
        bounds = λ i a is_leaf e. all.sees.bounds i a is_leaf (under i is_leaf) e;
        attained = λ b e. elim (all.sees.attained b e) [
          | inl h ↦ absurd (not_some b h)
          | inr w ↦ w
        ];
        opens = λ i is_leaf e. all.sees.opens i is_leaf (under i is_leaf) e;
      },
    )
  where
    not_some : (b : ℤ) → None ≡ Some b → ⊥
    not_some b e = cc
