-- What is seen of the leaves of a tree bounds each point of its box that meets the rows.
use Rattle.std.proofs.Common.{◌≡◌, inl, inr, ℕ, ◌+◌, true, false, not, ◌&&◌, nat_lt, List, length, Option, Some, None, Ok, ℤ, pos, ◌-ℤ◌, ◌≤ℤ◌, ◌<ℤ◌, int_le, int_lt, refl, subst, ap, sym, ◌∙◌, arith}
use Rattle.std.specs.Int.{int_min, int_max}
use Rattle.std.proofs.lemmas.Int.{ints, clamps}
use Rattle.std.proofs.lemmas.Bool.Decides.{Decides-ltb}
use Rattle.opt_base.specs.Answers.{◌>>=◌}
use Rattle.opt_sums.specs.Sums.{at}
use Rattle.opt_system.specs.Ranges.{Range, IsOrdered, IsWithin}
use Rattle.opt_system.specs.Cuts.{IsCut, is_cut, left_half, right_half}
use Rattle.opt_system.specs.Systems.{System, IsLimited, Meets, value}
use Rattle.opt_bound.specs.declared.fault.EntryFault.{EntryFault}
use Rattle.opt_bound.specs.declared.leaf.Leaf.{Leaf}
use Rattle.opt_bound.specs.declared.leaf.Leaf.TheVariants.{Empty, AtLeast}
use Rattle.opt_bound.specs.Multipliers.{Multipliers, IsAdmissible}
use Rattle.opt_bound.specs.Faults.{first_fault_of}
use Rattle.opt_bound.specs.Verdict.{IsTrueOf}
use Rattle.opt_bound.proofs.FaultLemmas.{admissible_of}
use Rattle.opt_system.proofs.CutLemmas.{IsOrdered-left, IsOrdered-right, in_a_half}
use Rattle.opt_tree.specs.Trees.{BoxTree, leaf, split, node_count}
use Rattle.opt_tree.specs.Certificates.{HasNodes}
use Rattle.opt_tree.specs.Shown.{Known, Seen, leaf_at, is_reached, is_closed, least_with, with_split, with_leaf, judge_leaf, unless_wrong, look_leaf, look_cut, look}
use Rattle.opt_tree.proofs.Steps.{then_ok, ok_if, ok_unless, both_true, closed_if}
use Rattle.opt_tree.proofs.LeafTrue.{leaf_at-true}

-- a least lower bound was seen, and it is no greater than the value
abbrev pub Bounds : Option ℤ → ℤ → Type 0
Bounds None v = ⊥
Bounds (Some least) v = least ≤ℤ v

-- where each leaf has to be closed, the least lower bound that was seen is reached
abbrev pub AllReached : Known → Option ℤ → Type 0
AllReached k None = Unit {0}
AllReached k (Some least) = k.must_close ≡ true → is_reached k.best k.gap (int_max k.root_bound least) ≡ true

-- what the leaves of a tree on this box add to what was seen
pub record Adds (s : System) (k : Known) (box : Range) (before after : Seen) (count : ℕ) : Type 0 where
  pub nodes : after.nodes ≡ before.nodes + count
  pub keeps : (v : ℤ) → Bounds before.least v → Bounds after.least v
  pub bounds : (x : List ℤ) → Meets s x → IsWithin box x → Bounds after.least (value s x)
  pub reached : AllReached k before.least → AllReached k after.least

-- ---- a leaf
keeps_least : (least : Option ℤ) (b v : ℤ) → Bounds least v → least_with least b ≤ℤ v
keeps_least None b v h = absurd h
keeps_least (Some least) b v h = omega (arith, ints, clamps)

least_le : (least : Option ℤ) (b v : ℤ) → b ≤ℤ v → least_with least b ≤ℤ v
least_le None b v h = h
least_le (Some least) b v h = omega (arith, ints, clamps)

reached_min : (best : Option ℤ) (gap r a b : ℤ) → is_reached best gap (int_max r a) ≡ true → is_reached best gap (int_max r b) ≡ true → is_reached best gap (int_max r (int_min a b)) ≡ true
reached_min None gap r a b h k = h
reached_min (Some best) gap r a b h k =
    let p : (best -ℤ gap) ≤ℤ int_max r a = grind (arith, ints) in
    let q : (best -ℤ gap) ≤ℤ int_max r b = grind (arith, ints) in
    let both : (best -ℤ gap) ≤ℤ int_max r (int_min a b) = omega (arith, ints, clamps) in
    grind (arith, ints)

reaches_least : (k : Known) (least : Option ℤ) (b : ℤ) → (k.must_close ≡ true → is_reached k.best k.gap (int_max k.root_bound b) ≡ true) → AllReached k least → AllReached k (Some (least_with least b))
reaches_least k None b here all = here
reaches_least k (Some least) b here all = λ must. reached_min k.best k.gap k.root_bound least b (all must) (here must)

adds_leaf : (s : System) (k : Known) (box : Range) (before after : Seen) (l : Leaf) → IsTrueOf s box l → judge_leaf k before l ≡ Ok after → Adds s k box before after 1
adds_leaf s k box before after Empty true_of h =
    let p : (k.must_close && false ≡ false) × (with_leaf k before Empty ≡ after) = ok_unless (k.must_close && false) (with_leaf k before Empty) after _ h in
    let P : Seen → Type 0 = λ a. Adds s k box before a 1 in
    subst P p.1 (record {
      nodes = refl;
      keeps = λ v b. b;
      bounds = λ x meets inside. absurd (true_of x meets inside);
      reached = λ all. all;
    })
adds_leaf s k box before after (AtLeast b) true_of h =
    let p : (k.must_close && not (is_closed k (AtLeast b)) ≡ false) × (with_leaf k before (AtLeast b) ≡ after) =
    ok_unless (k.must_close && not (is_closed k (AtLeast b))) (with_leaf k before (AtLeast b)) after _ h
    in
    let P : Seen → Type 0 = λ a. Adds s k box before a 1 in
    subst P p.1 (record {
      nodes = refl;
      keeps = λ v below. keeps_least before.least b v below;
      bounds = λ x meets inside. least_le before.least b (value s x) (true_of x meets inside);
      reached = λ all. reaches_least k before.least b (λ must. closed_if k.must_close (is_closed k (AtLeast b)) p.0 must) all;
    })

no_fault_if : (r : Option EntryFault) (n : ℕ) (m y : Multipliers) → unless_wrong r n m ≡ Ok y → (r ≡ None) × (m ≡ y)
no_fault_if None n m y h = (refl, cc)
no_fault_if (Some f) n m y h = cc

looked_leaf : (s : System) (k : Known) (box : Range) (before after : Seen) (m : Multipliers) → IsLimited s → pos 0 ≤ℤ m.q → look_leaf s k before box m ≡ Ok after → Adds s k box before after 1
looked_leaf s k box before after m limited from h =
    let p : (y : Multipliers) × (unless_wrong (first_fault_of s m.entries) before.nodes m ≡ Ok y) × (judge_leaf k before (leaf_at s box y) ≡ Ok after) =
    then_ok (unless_wrong (first_fault_of s m.entries) before.nodes m) (λ y. judge_leaf k before (leaf_at s box y)) after h
    in
    let q : (first_fault_of s m.entries ≡ None) × (m ≡ p.0) = no_fault_if (first_fault_of s m.entries) before.nodes m p.0 p.1 in
    let admissible : IsAdmissible s m = admissible_of s m.entries q.0 in
    let judged : judge_leaf k before (leaf_at s box m) ≡ Ok after = ap (λ y. judge_leaf k before (leaf_at s box y)) q.1 ∙ p.2 in
    adds_leaf s k box before after (leaf_at s box m) (leaf_at-true s box m limited from admissible) judged

-- ---- a split
adds_split : (s : System) (k : Known) (box : Range) (before a b after : Seen) (j m n : ℕ) (t : ℤ) → IsOrdered box → IsCut box j t → a ≡ with_split before → Adds s k (left_half box j t) a b m → Adds s k (right_half box j t) b after n → Adds s k box before after (1 + m + n)
adds_split s k box before a b after j m n t ordered cut is left right =
    let nodes_is : a.nodes ≡ before.nodes + 1 = ap (λ (z : Seen). z.nodes) is in
    let least_is : a.least ≡ before.least = ap (λ (z : Seen). z.least) is in
    record {
      nodes = omega (arith, left.nodes, right.nodes);
      keeps = λ v below. right.keeps v (left.keeps v (subst (λ (l : Option ℤ). Bounds l v) (sym least_is) below));
      bounds = λ x meets inside. elim (in_a_half box j t x ordered cut inside) [
        | inl l ↦ right.keeps (value s x) (left.bounds x meets l)
        | inr r ↦ right.bounds x meets r
      ];
      reached = λ all. right.reached (left.reached (subst (λ (l : Option ℤ). AllReached k l) (sym least_is) all));
    }

-- the test of a cut says what it is
pub IsCut-test : (box : Range) (j : ℕ) (t : ℤ) → is_cut box j t ≡ true → IsCut box j t
IsCut-test box j t h =
    let p : (nat_lt j (length box.low) ≡ true) × ((int_le (at box.low j) t && int_lt t (at box.high j)) ≡ true) = both_true (nat_lt j (length box.low)) _ h in
    let q : (int_le (at box.low j) t ≡ true) × (int_lt t (at box.high j) ≡ true) = both_true (int_le (at box.low j) t) _ p.1 in
    record { quantity = (Decides-ltb j (length box.low)).0 p.0; from_low = le_of (at box.low j) t q.0; below_high = lt_of t (at box.high j) q.1 }
  where
    le_of : (a b : ℤ) → int_le a b ≡ true → a ≤ℤ b
    le_of a b h = grind (arith, ints)

    lt_of : (a b : ℤ) → int_lt a b ≡ true → a <ℤ b
    lt_of a b h = grind (arith, ints)

pub looked : (s : System) (k : Known) (box : Range) (before after : Seen) (tree : BoxTree) → IsLimited s → HasNodes tree → IsOrdered box → look s k before box tree ≡ Ok after → Adds s k box before after (node_count tree)
looked s k box before after (leaf m) limited nodes ordered h = looked_leaf s k box before after m limited nodes.proper.q_from_zero h
looked s k box before after (split j t left right) limited nodes ordered h =
    let p : (a : Seen) × (look_cut before box j t ≡ Ok a) × ((look s k a (left_half box j t) left >>= λ b. look s k b (right_half box j t) right) ≡ Ok after) =
    then_ok (look_cut before box j t) (λ a. look s k a (left_half box j t) left >>= λ b. look s k b (right_half box j t) right) after h
    in
    let q : (b : Seen) × (look s k p.0 (left_half box j t) left ≡ Ok b) × (look s k b (right_half box j t) right ≡ Ok after) =
    then_ok (look s k p.0 (left_half box j t) left) (λ b. look s k b (right_half box j t) right) after p.2
    in
    let tested : (is_cut box j t ≡ true) × (with_split before ≡ p.0) = ok_if (is_cut box j t) (with_split before) p.0 _ p.1 in
    let cut : IsCut box j t = IsCut-test box j t tested.0 in
    adds_split s k box before p.0 q.0 after j (node_count left) (node_count right) t ordered cut (sym tested.1)
    (looked s k (left_half box j t) p.0 q.0 left limited nodes.1 (IsOrdered-left box j t ordered cut) q.1)
    (looked s k (right_half box j t) q.0 after right limited nodes.2 (IsOrdered-right box j t ordered cut) q.2)
