-- A search between two of its steps: what it keeps, and what is always true of that. Nodes are settled in the order of
-- their numbers; a split and its settled children stand between two steps.
use Rattle.std.specs.Prelude.{◌≡◌, ℕ, ◌+◌, ◌<◌, ◌≤◌, ◌↔◌, ◌⊎◌, Bool, true, false, List, [], ◌∷◌, ◌++◌, length, Contains, Option, Some, None, option_map, IfSome, slice_index_or, ℤ, pos, ◌≤ℤ◌, ◌<ℤ◌}
use Rattle.std.specs.Int.{int_max}
use Rattle.opt_base.specs.declared.verdict.Verdict.{Verdict}
use Rattle.opt_base.specs.declared.verdict.Verdict.TheVariants as verdict
use Rattle.opt_system.specs.Ranges.{Range}
use Rattle.opt_system.specs.Systems.{System, IsLimited, Meets, value}
use Rattle.opt_bound.specs.declared.leaf.Leaf.{Leaf}
use Rattle.opt_bound.specs.declared.leaf.Leaf.TheVariants.{Empty, AtLeast}
use Rattle.opt_bound.specs.Multipliers.{Multipliers, IsProper, IsAdmissible}
use Rattle.opt_tree.specs.declared.node.Node.TheVariants.{Split}
use Rattle.opt_tree.specs.Shown.{leaf_at, Known, is_closed, is_reached, least_with, bound_shown}
use Rattle.opt_tree.specs.Nodes.{IsTree, IsLeaf, node_at, box_of, one_leaf, with_mult, split_at}
use Rattle.opt_guide.specs.Relations.{OfMultipliers, OfCandidates, OfCuts}
use Rattle.opt_search.specs.declared.state.Best.{Best}
use Rattle.opt_search.specs.declared.state.State.{State}
use Rattle.opt_search.specs.Open.{Removes}
use Rattle.opt_search.specs.Guided.{IsLine, IsOnePoint, IsPointLine, IsLeafLine, IsCutLine, IsAtMost, WasWeighed, WeighsOne, WasOpen}

-- the lower bound that the root line gives: 0 where it shows that no point meets the rows
abbrev pub bound_of_leaf : Leaf → ℤ
bound_of_leaf Empty = pos 0
bound_of_leaf (AtLeast bound) = bound

-- what node i shows of its box, once it is settled
abbrev pub shown_at : List Leaf → ℕ → Leaf
shown_at shown i = slice_index_or shown i Empty

-- the value of the best point, where one is known
abbrev pub best_value : Option Best → Option ℤ
best_value best = option_map (λ b. b.value) best

-- what is known when a leaf is judged
abbrev pub known_in : ℤ → State → Known
known_in gap st = record { must_close = true; root_bound = st.root_bound; best = best_value st.best; gap = gap }

-- node i is a leaf of the tree that is settled
pub record IsSettledLeaf (st : State) (i : ℕ) : Type 0 where
  pub leaf : IsLeaf st.tree i
  pub settled : i < length st.shown.items

-- settled leaf i is not closed, and this is its bound
pub record IsOpenLeaf (gap : ℤ) (st : State) (bound : ℤ) (i : ℕ) : Type 0 where
  pub leaf : IsSettledLeaf st i
  pub shown : shown_at st.shown.items i ≡ AtLeast bound
  pub open_still : is_closed (known_in gap st) (AtLeast bound) ≡ false

-- the best point meets the system, and its value is the best value
pub record IsBest (s : System) (best : Best) : Type 0 where
  pub meets : Meets s best.point
  pub value_is : value s best.point ≡ best.value

-- what is true of every search between two of its steps
pub record IsSound (s : System) (gap : ℤ) (st : State) : Type 0 where
  pub limited : IsLimited s
  pub tree : IsTree st.tree
  pub same_root : st.tree.root ≡ s.root
  pub root_proper : IsProper st.root
  pub root_admissible : IsAdmissible s st.root
  pub root_empty : leaf_at s s.root st.root ≡ Empty → st.open_leaves ≡ []
  pub root_bound_is : st.root_bound ≡ bound_of_leaf (leaf_at s s.root st.root)
  pub settled : length st.shown.items ≤ length st.tree.nodes
  pub proper : (i : ℕ) → IsSettledLeaf st i → IsProper (node_at st.tree.nodes i).mult
  pub admissible : (i : ℕ) → IsSettledLeaf st i → IsAdmissible s (node_at st.tree.nodes i).mult
  pub shown_is : (i : ℕ) → IsSettledLeaf st i → shown_at st.shown.items i ≡ leaf_at s (box_of st.tree i) (node_at st.tree.nodes i).mult
  pub points_closed : (i : ℕ) → IsSettledLeaf st i → IsOnePoint (box_of st.tree i) → is_closed (known_in gap st) (shown_at st.shown.items i) ≡ true
  pub open_are : (bound : ℤ) (i : ℕ) → (Contains st.open_leaves (bound, i)) ↔ IsOpenLeaf gap st bound i
  pub best_is : IfSome st.best (IsBest s)

-- what a search kept so far of what its guide may answer; first is the candidate that was weighed on the root's box
pub record IsLed (weigh : OfMultipliers) (try : OfCandidates) (cut : OfCuts) (s : System) (gap : ℤ) (first : Option (List ℤ)) (st : State) : Type 0 where
  pub root_line : IsLine weigh s s.root st.root
  pub leaf_lines : (i : ℕ) → IsSettledLeaf st i → IsLeafLine weigh s (box_of st.tree i) (node_at st.tree.nodes i).mult
  pub cuts : (i j : ℕ) (c : ℤ) (l r : ℕ) → i < length st.tree.nodes → (node_at st.tree.nodes i).node ≡ Split j c l r → IsCutLine cut s (box_of st.tree i) j c
  pub candidates : (i : ℕ) → i < length st.shown.items → WeighsOne try s (best_value st.best) (box_of st.tree i)
  pub first_tried : try s s.root first
  pub first_weighed : WasWeighed s (best_value st.best) first
  pub opened : (i j : ℕ) (c : ℤ) (l r : ℕ) → i < length st.tree.nodes → (node_at st.tree.nodes i).node ≡ Split j c l r → WasOpen weigh s gap st.root_bound first (box_of st.tree i)

-- each node is settled
abbrev pub IsComplete : State → Type 0
IsComplete st = length st.shown.items ≡ length st.tree.nodes

-- ---- steps
-- a search at its start: one leaf, the root's box, which is not settled yet
pub record IsFirst (s : System) (st : State) : Type 0 where
  pub limited : IsLimited s
  pub tree : st.tree ≡ one_leaf s.root
  pub shown : st.shown.items ≡ []
  pub open_leaves : st.open_leaves ≡ []
  pub best : st.best ≡ None
  pub proper : IsProper st.root
  pub admissible : IsAdmissible s st.root
  pub root_bound : st.root_bound ≡ bound_of_leaf (leaf_at s s.root st.root)

-- a best value has fallen to the new one, or is as before
abbrev pub Falls : Option ℤ → Option ℤ → Type 0
Falls None new = Unit {0}
Falls (Some old) new = IsAtMost new old

-- no best value is known, or this one is lower
abbrev pub IsBeaten : Option ℤ → ℤ → Type 0
IsBeaten None v = Unit {0}
IsBeaten (Some best) v = v <ℤ best

-- tree, root line and what the nodes show are as before
pub record KeepsTree (old new : State) : Type 0 where
  pub tree : new.tree ≡ old.tree
  pub shown : new.shown.items ≡ old.shown.items
  pub root : new.root ≡ old.root
  pub root_bound : new.root_bound ≡ old.root_bound

-- the open leaves are those that a best point of this value leaves open
abbrev pub KeepsUnreached : ℤ → ℤ → ℤ → List (ℤ × ℕ) → List (ℤ × ℕ) → Type 0
KeepsUnreached gap root_bound best old new =
    (b : ℤ) (i : ℕ) → (Contains new (b, i)) ↔ (Contains old (b, i) × (is_reached (Some best) gap (int_max root_bound b) ≡ false))

-- the leaf is among the open ones where it is not closed
abbrev pub AddsIfOpen : ℤ → State → ℕ → Leaf → List (ℤ × ℕ) → Type 0
AddsIfOpen gap old node leaf new =
    (b : ℤ) (i : ℕ) → (Contains new (b, i)) ↔ (Contains old.open_leaves (b, i) ⊎ ((i ≡ node) × (leaf ≡ AtLeast b) × (is_closed (known_in gap old) (AtLeast b) ≡ false)))

-- the next node is settled as a leaf with these multipliers, which show this of its box
pub record Settles (gap : ℤ) (old new : State) (node : ℕ) (m : Multipliers) (leaf : Leaf) : Type 0 where
  pub tree : new.tree ≡ with_mult old.tree node m
  pub shown : new.shown.items ≡ old.shown.items ++ leaf ∷ []
  pub root : new.root ≡ old.root
  pub root_bound : new.root_bound ≡ old.root_bound
  pub best : new.best ≡ old.best
  pub open_leaves : AddsIfOpen gap old node leaf new.open_leaves

-- the next node, with this box, is settled: its multipliers are a line of the box, and a candidate of it was weighed
pub record SettlesBox (weigh : OfMultipliers) (try : OfCandidates) (s : System) (old new : State) (node : ℕ) (box : Range) : Type 0 where
  pub line : Multipliers
  pub tree : new.tree ≡ with_mult old.tree node line
  pub is_line : IsLeafLine weigh s box line
  pub settled : length new.shown.items ≡ node + 1
  pub root : new.root ≡ old.root
  pub root_bound : new.root_bound ≡ old.root_bound
  pub weighed : WeighsOne try s (best_value new.best) box
  pub falls : Falls (best_value old.best) (best_value new.best)

-- the open leaf is split at this cut, and open no longer
pub record Splits (old new : State) (bound : ℤ) (leaf quantity : ℕ) (cut : ℤ) : Type 0 where
  pub tree : new.tree ≡ split_at old.tree leaf quantity cut
  pub shown : new.shown.items ≡ old.shown.items
  pub root : new.root ≡ old.root
  pub root_bound : new.root_bound ≡ old.root_bound
  pub best : new.best ≡ old.best
  pub open_leaves : Removes bound leaf old.open_leaves new.open_leaves

-- the multipliers of a leaf with this box, in the place of m: admissible, and empty where m is; m itself, but on a box
-- of one point maybe those that judge this point, and there they close it
pub record IsClosing (s : System) (known : Known) (box : Range) (m line : Multipliers) : Type 0 where
  pub admissible : IsAdmissible s line
  pub same_or_point : (line ≡ m) ⊎ (IsOnePoint box × IsPointLine s box.low line)
  pub closed : IsOnePoint box → is_closed known (leaf_at s box line) ≡ true
  pub empty : leaf_at s box m ≡ Empty → leaf_at s box line ≡ Empty

-- ---- the end
-- the least lower bound of the leaves that are not empty, where there is one
abbrev pub IsLeastShown : State → Option ℤ → Type 0
IsLeastShown st None = (i : ℕ) → IsSettledLeaf st i → shown_at st.shown.items i ≡ Empty
IsLeastShown st (Some least) =
    ((i : ℕ) × IsSettledLeaf st i × (shown_at st.shown.items i ≡ AtLeast least))
    × ((i : ℕ) (bound : ℤ) → IsSettledLeaf st i → shown_at st.shown.items i ≡ AtLeast bound → least ≤ℤ bound)

-- the least lower bound with that of one leaf more
abbrev pub least_after : Option ℤ → Leaf → Option ℤ
least_after least Empty = least
least_after least (AtLeast bound) = Some (least_with least bound)

-- a plan where a point is known and no leaf is open, no plan where none is and no leaf is open, else unfinished
abbrev pub verdict_by : Bool → Option ℤ → ℤ → Verdict
verdict_by true (Some best) bound = verdict.Plan best bound
verdict_by true None bound = verdict.NoPlan
verdict_by false best bound = verdict.Unfinished bound best

-- whether no leaf is open
abbrev pub is_empty : List (ℤ × ℕ) → Bool
is_empty [] = true
is_empty (e ∷ es) = false

-- the verdict of a search that ends here, with the bound that its leaves show
pub record Concludes (st : State) (v : Verdict) : Type 0 where
  pub least : Option ℤ
  pub is_least : IsLeastShown st least
  pub verdict_is : v ≡ verdict_by (is_empty st.open_leaves) (best_value st.best) (bound_shown st.root_bound (best_value st.best) least)
