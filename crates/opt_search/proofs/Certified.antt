-- A search that ends: its outcome's certificate has numbers that can be written, and its verdict is true.
use Rattle.std.proofs.Common.{◌≡◌, ℕ, ◌^◌, ◌<◌, Bool, true, false, List, [], length, Option, Some, None, is_some, unwrap_or, ℤ, pos, ◌≤ℤ◌, ◌<ℤ◌, unsigned_abs, refl, subst, ap, sym, ◌∙◌, arith}
use Rattle.std.specs.Option.{option_map, IfSome}
use Rattle.std.proofs.lemmas.Int.{ints, clamps}
use Rattle.std.proofs.lemmas.List.Elements.{All-weaker}
use Rattle.opt_base.specs.declared.verdict.Verdict.{Verdict}
use Rattle.opt_sums.specs.Sums.{at}
use Rattle.opt_sums.specs.Entries.{AllBelow}
use Rattle.opt_system.specs.Ranges.{Range, IsOrdered, LiesIn}
use Rattle.opt_system.specs.Cuts.{IsCut}
use Rattle.opt_system.specs.Systems.{System, IsLimited, value}
use Rattle.opt_system.proofs.CutLemmas.{LiesIn-refl}
use Rattle.opt_system.proofs.LimitLemmas.{value_from_zero, value_small}
use Rattle.opt_bound.specs.declared.leaf.Leaf.{Leaf}
use Rattle.opt_bound.specs.declared.leaf.Leaf.TheVariants.{Empty, AtLeast}
use Rattle.opt_bound.specs.Multipliers.{Multipliers, IsProper, IsFitting, IsAdmissible}
use Rattle.opt_bound.specs.Bound.{bound_of}
use Rattle.opt_bound.specs.Verdict.{IsLeafInRange}
use Rattle.opt_bound.proofs.BoundSizes.{size_bound}
use Rattle.opt_bound.proofs.LeafLemmas.{leaf_in_range}
use Rattle.opt_tree.specs.Certificates.{IsCertificate, IsInRange, HasRanges, AreWritable, IsWritableCut, HasEntries, HasNodes, listed_point, entries_of, certificate_of}
use Rattle.opt_tree.specs.Nodes.{IsSplit, node_at, box_of, tree_of}
use Rattle.opt_tree.specs.Shown.{leaf_at, bound_shown}
use Rattle.opt_tree.specs.Verdicts.{IsTrueVerdict}
use Rattle.opt_tree.proofs.BoxLemmas.{IsBox, box_of-IsBox}
use Rattle.opt_tree.proofs.ShownTrue.{shown_true}
use Rattle.opt_search.specs.declared.state.Best.{Best}
use Rattle.opt_search.specs.declared.state.State.{State}
use Rattle.opt_search.specs.State.{bound_of_leaf, best_value, IsSettledLeaf, IsBest, IsSound, IsLeastShown, verdict_by, is_empty, Concludes}
use Rattle.opt_search.proofs.TreeNumbers.{HasNodes-tree_of}
use Rattle.opt_search.proofs.PointEntries.{point_listed, point_entries}
use Rattle.opt_search.proofs.Ended.{IsEnded, best_known, named_by, shown_ended}

-- ---- numbers
-- what proper and admissible multipliers show of a box is from 0 to 2^126
leaf_range : (s : System) (box : Range) (m : Multipliers) → IsLimited s → IsProper m → IsAdmissible s m → LiesIn s.root box → IsOrdered box → IsLeafInRange (leaf_at s box m)
leaf_range s box m limited proper admissible inside ordered =
    let named : AllBelow (length s.rows) m.entries = All-weaker (IsFitting s) (λ e. e.0 < length s.rows) (λ e fits. fits.0) m.entries admissible in
    let small : unsigned_abs (bound_of s box m) < 2 ^ 126 = omega (arith, size_bound s box m (length s.cost) limited proper inside ordered named (omega arith)) in
    leaf_in_range (bound_of s box m) m.q small

range_of_bound : (b : ℤ) → (pos 0 ≤ℤ b) × (b ≤ℤ pos (2 ^ 126)) → IsInRange b
range_of_bound b h = record { from_zero = h.0; small = omega (arith, ints, h.0, h.1) }

range_of_leaf : (l : Leaf) → IsLeafInRange l → IsInRange (bound_of_leaf l)
range_of_leaf Empty h = record { from_zero = omega (arith, ints); small = omega (arith, ints) }
range_of_leaf (AtLeast b) h = range_of_bound b h

range_at : (l : Leaf) (b : ℤ) → IsLeafInRange l → l ≡ AtLeast b → IsInRange b
range_at l b h e = subst (λ (k : Leaf). IsInRange (bound_of_leaf k)) e (range_of_leaf l h)

root_range : (s : System) (gap : ℤ) (st : State) → IsSound s gap st → IsInRange st.root_bound
root_range s gap st sound =
    subst IsInRange (sym sound.root_bound_is)
    (range_of_leaf (leaf_at s s.root st.root) (leaf_range s s.root st.root sound.limited sound.root_proper sound.root_admissible (LiesIn-refl s.root) sound.limited.ordered))

best_range : (s : System) (best : Option Best) → IsLimited s → IfSome best (IsBest s) → IfSome (best_value best) IsInRange
best_range s None limited is = tt
best_range s (Some b) limited is =
    subst IsInRange is.value_is (range_of_bound (value s b.point) (value_from_zero s b.point limited is.meets.in_range, value_small s b.point limited is.meets.in_range))

least_range : (s : System) (gap : ℤ) (st : State) (least : Option ℤ) → IsSound s gap st → IsLeastShown st least → IfSome least IsInRange
least_range s gap st None sound is = tt
least_range s gap st (Some a) sound is =
    let i : ℕ = is.0.0 in
    let settled : IsSettledLeaf st i = is.0.1 in
    let box : IsBox st.tree i = box_of-IsBox st.tree i sound.tree settled.leaf.in_tree in
    let inside : LiesIn s.root (box_of st.tree i) = subst (λ (r : Range). LiesIn r (box_of st.tree i)) sound.same_root box.within in
    range_at (leaf_at s (box_of st.tree i) (node_at st.tree.nodes i).mult) a
    (leaf_range s (box_of st.tree i) (node_at st.tree.nodes i).mult sound.limited (sound.proper i settled) (sound.admissible i settled) inside box.ordered)
    (sym (sound.shown_is i settled) ∙ is.0.2)

shown_range : (root_bound : ℤ) (best least : Option ℤ) → IsInRange root_bound → IfSome best IsInRange → IfSome least IsInRange → IsInRange (bound_shown root_bound best least)
shown_range r None None root b l = root
shown_range r (Some o) None root b l = b
shown_range r None (Some a) root b l =
    record { from_zero = omega (arith, ints, clamps, root.from_zero, l.from_zero); small = omega (arith, ints, clamps, root.from_zero, l.from_zero, root.small, l.small) }
shown_range r (Some o) (Some a) root b l =
    record { from_zero = omega (arith, ints, clamps, root.from_zero, l.from_zero, b.from_zero); small = omega (arith, ints, clamps, root.from_zero, l.from_zero, b.from_zero, root.small, l.small, b.small) }

ranges_by : (e : Bool) (best : Option ℤ) (bound : ℤ) → IfSome best IsInRange → IsInRange bound → HasRanges (verdict_by e best bound)
ranges_by true (Some b) bound h k = (h, k)
ranges_by true None bound h k = tt
ranges_by false None bound h k = k
ranges_by false (Some b) bound h k = (k, h)

-- ---- multipliers, cuts and the point
writable : (s : System) (m : Multipliers) → IsLimited s → IsProper m → IsAdmissible s m → AreWritable m
writable s m limited proper admissible = record {
  proper = proper;
  rows = All-weaker (IsFitting s) (λ e. e.0 < 2 ^ 32) (λ e fits. omega (arith, fits.0, limited.few_rows)) m.entries admissible;
}

writable_cut : (s : System) (box : Range) (j : ℕ) (c : ℤ) → IsLimited s → LiesIn s.root box → IsOrdered box → IsCut box j c → IsWritableCut j c
writable_cut s box j c limited inside ordered cut =
    let below : at box.high j ≤ℤ at s.root.high j = inside.below j cut.quantity in
    let from : pos 0 ≤ℤ at box.low j = ordered.from_zero j cut.quantity in
    let low : at box.low j ≤ℤ c = cut.from_low in
    let high : c <ℤ at box.high j = cut.below_high in
    let most : unsigned_abs (at s.root.high j) < 2 ^ 51 = limited.small.costs.highs j (omega (arith, cut.quantity, inside.same_length, limited.small.cost_each)) in
    record {
      quantity_small = omega (arith, cut.quantity, inside.same_length, limited.ordered.same_length, limited.small.few_quantities);
      from_zero = omega (arith, ints);
      small = omega (arith, ints);
    }

has_entries : (s : System) (best : Option Best) → IsLimited s → IfSome best (IsBest s) → HasEntries (option_map entries_of (best_known best))
has_entries s None limited is = tt
has_entries s (Some b) limited is = point_entries s b.point limited is.meets.in_range

some_where_named : (best : Option Best) (named : Option ℤ) → named ≡ best_value best → is_some (option_map entries_of (best_known best)) ≡ is_some named
some_where_named None named e = ap is_some (sym e)
some_where_named (Some b) named e = ap is_some (sym e)

has_nodes : (s : System) (gap : ℤ) (limit : ℕ) (st : State) → IsEnded s gap limit st → HasNodes (tree_of st.tree)
has_nodes s gap limit st ended =
    let sound : IsSound s gap st = ended.sound in
    HasNodes-tree_of st.tree sound.tree
    (λ i is.
    let settled : IsSettledLeaf st i = record { leaf = is; settled = omega (arith, is.in_tree, ended.complete) } in
    writable s (node_at st.tree.nodes i).mult sound.limited (sound.proper i settled) (sound.admissible i settled))
    (λ i j c l r below kind.
    let is : IsSplit st.tree i j c l r = sound.tree.splits i j c l r below kind in
    let box : IsBox st.tree i = box_of-IsBox st.tree i sound.tree below in
    let inside : LiesIn s.root (box_of st.tree i) = subst (λ (b : Range). LiesIn b (box_of st.tree i)) sound.same_root box.within in
    writable_cut s (box_of st.tree i) j c sound.limited inside box.ordered is.cut)

-- ---- the certificate and its verdict
certificate_by : (s : System) (gap : ℤ) (limit : ℕ) (st : State) (least : Option ℤ) → IsEnded s gap limit st → IsLeastShown st least → IsCertificate (certificate_of (verdict_by (is_empty st.open_leaves) (best_value st.best) (bound_shown st.root_bound (best_value st.best) least)) st.root (best_known st.best) (tree_of st.tree))
certificate_by s gap limit st least ended is_least =
    let sound : IsSound s gap st = ended.sound in
    let best : IfSome (best_value st.best) IsInRange = best_range s st.best sound.limited sound.best_is in
    record {
      verdict = ranges_by (is_empty st.open_leaves) (best_value st.best) (bound_shown st.root_bound (best_value st.best) least) best
          (shown_range st.root_bound (best_value st.best) least (root_range s gap st sound) best (least_range s gap st least sound is_least));
      root = writable s st.root sound.limited sound.root_proper sound.root_admissible;
      point = has_entries s st.best sound.limited sound.best_is;
      tree = has_nodes s gap limit st ended;
      point_where_named = some_where_named st.best _ (named_by (is_empty st.open_leaves) (best_value st.best) (bound_shown st.root_bound (best_value st.best) least));
    }

pub certificate_ended : (s : System) (gap : ℤ) (limit : ℕ) (st : State) (v : Verdict) → IsEnded s gap limit st → Concludes st v → IsCertificate (certificate_of v st.root (best_known st.best) (tree_of st.tree))
certificate_ended s gap limit st v ended concludes =
    let P : Verdict → Type 0 = λ w. IsCertificate (certificate_of w st.root (best_known st.best) (tree_of st.tree)) in
    subst P (sym concludes.verdict_is) (certificate_by s gap limit st concludes.least ended concludes.is_least)

listed : (s : System) (best : Option Best) → IsLimited s → IfSome best (IsBest s) → listed_point (length s.cost) (option_map entries_of (best_known best)) ≡ unwrap_or (best_known best) []
listed s None limited is = refl
listed s (Some b) limited is =
    point_listed (length s.cost) b.point (omega (arith, is.meets.in_range.same_length, limited.small.cost_each))

pub true_ended : (s : System) (gap : ℤ) (limit : ℕ) (st : State) (v : Verdict) → pos 0 ≤ℤ gap → IsEnded s gap limit st → Concludes st v → IsTrueVerdict s gap v (unwrap_or (best_known st.best) [])
true_ended s gap limit st v from ended concludes =
    subst (λ (x : List ℤ). IsTrueVerdict s gap v x) (listed s st.best ended.sound.limited ended.sound.best_is)
    (shown_true s gap limit (certificate_of v st.root (best_known st.best) (tree_of st.tree)) v ended.sound.limited from
    (certificate_ended s gap limit st v ended concludes)
    (shown_ended s gap limit st v ended concludes))
