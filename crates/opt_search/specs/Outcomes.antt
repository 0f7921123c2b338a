-- What a search's outcome keeps, whatever its guide said, and what it kept of the guide's answers.
use Rattle.std.specs.Prelude.{◌≡◌, ℕ, ◌+◌, ◌*◌, ◌<◌, ◌≤◌, List, [], length, Option, unwrap_or, ℤ, false}
use Rattle.opt_base.specs.declared.verdict.Verdict.{Verdict}
use Rattle.opt_base.specs.declared.verdict.Verdict.TheVariants as verdict
use Rattle.opt_system.specs.Ranges.{Range, IsWithin, points}
use Rattle.opt_system.specs.Cuts.{IsCut, left_half, right_half}
use Rattle.opt_system.specs.Systems.{System}
use Rattle.opt_tree.specs.declared.node.Node.TheVariants.{Split}
use Rattle.opt_tree.specs.declared.outcome.Outcome.{Outcome}
use Rattle.opt_tree.specs.Trees.{node_count, leaf_count, HasCuts}
use Rattle.opt_tree.specs.Certificates.{named_value}
use Rattle.opt_tree.specs.Nodes.{IsLeaf, LiesInOne, node_at, box_of, tree_of}
use Rattle.opt_tree.specs.Shown.{leaf_at, Known, is_closed}
use Rattle.opt_guide.specs.Relations.{OfMultipliers, OfCandidates, OfCuts}
use Rattle.opt_search.specs.Guided.{IsLine, IsLeafLine, IsCutLine, WasWeighed, WeighsOne, WasOpen}
use Rattle.opt_search.specs.State.{bound_of_leaf}

-- the best point, or no value at all where none is known
abbrev pub best_point : Outcome → List ℤ
best_point o = unwrap_or o.best []

-- ---- boxes
-- both halves of the box have points, and each has fewer than the box
pub record IsParted (box : Range) (j : ℕ) (t : ℤ) : Type 0 where
  pub cut : IsCut box j t
  pub left_some : 1 ≤ points (left_half box j t)
  pub right_some : 1 ≤ points (right_half box j t)
  pub left_fewer : points (left_half box j t) < points box
  pub right_fewer : points (right_half box j t) < points box

-- the tree stands on the root's box; each split parts its box into two smaller ones that are not empty; each point of
-- the root's box lies in the box of just one leaf
pub record Parts (root : Range) (o : Outcome) : Type 0 where
  pub same_root : o.tree.root ≡ root
  pub cuts : HasCuts root (tree_of o.tree)
  pub parted : (i j : ℕ) (c : ℤ) (l r : ℕ) → i < length o.tree.nodes → (node_at o.tree.nodes i).node ≡ Split j c l r → IsParted (box_of o.tree i) j c
  pub covered : (x : List ℤ) → IsWithin root x → (k : ℕ) × LiesInOne o.tree x k

-- ---- counts
-- the nodes are one less than twice the leaves, at most one less than twice the points of the root's box, and at most
-- the limit
pub record IsCounted (points limit : ℕ) (o : Outcome) : Type 0 where
  pub all_nodes : node_count (tree_of o.tree) ≡ length o.tree.nodes
  pub leaves : length o.tree.nodes + 1 ≡ 2 * leaf_count (tree_of o.tree)
  pub by_points : length o.tree.nodes + 1 ≤ 2 * points
  pub by_limit : length o.tree.nodes ≤ limit

-- ---- an end before all is known
-- what is known of the leaves at the end of a search
abbrev pub known_at_end : System → ℤ → Outcome → Known
known_at_end s gap o =
    record { must_close = false; root_bound = bound_of_leaf (leaf_at s s.root o.root); best = named_value o.verdict; gap = gap }

-- leaf i is not closed
pub record IsOpenAtEnd (s : System) (gap : ℤ) (o : Outcome) (i : ℕ) : Type 0 where
  pub leaf : IsLeaf o.tree i
  pub not_closed : is_closed (known_at_end s gap o) (leaf_at s (box_of o.tree i) (node_at o.tree.nodes i).mult) ≡ false

-- some leaf is open, one more split would pass the limit, and the limit does not allow to split all the way
pub record EndsEarly (s : System) (gap : ℤ) (limit : ℕ) (o : Outcome) : Type 0 where
  pub some_open : (i : ℕ) × IsOpenAtEnd s gap o i
  pub at_limit : limit < length o.tree.nodes + 2
  pub limit_short : limit + 1 < 2 * points s.root

-- a search is unfinished only where it had to end early
abbrev pub EndsEarlyWhere : System → ℤ → ℕ → Outcome → Verdict → Type 0
EndsEarlyWhere s gap limit o (verdict.Plan objective bound) = Unit {0}
EndsEarlyWhere s gap limit o verdict.NoPlan = Unit {0}
EndsEarlyWhere s gap limit o (verdict.Unfinished bound best) = EndsEarly s gap limit o

abbrev pub IsUnfinishedAt : System → ℤ → ℕ → Outcome → Type 0
IsUnfinishedAt s gap limit o = EndsEarlyWhere s gap limit o o.verdict

-- ---- the guide
-- with what was weighed first on the root's box, each split box was open when it was split
pub record SplitsOpen (weigh : OfMultipliers) (try : OfCandidates) (s : System) (gap : ℤ) (o : Outcome) : Type 0 where
  pub first : Option (List ℤ)
  pub answered : try s s.root first
  pub weighed : WasWeighed s (named_value o.verdict) first
  pub were_open : (i j : ℕ) (c : ℤ) (l r : ℕ) → i < length o.tree.nodes → (node_at o.tree.nodes i).node ≡ Split j c l r → WasOpen weigh s gap (bound_of_leaf (leaf_at s s.root o.root)) first (box_of o.tree i)

-- root line, leaf lines and cuts are what the guide may answer, or what stands for it where that is wrong; a candidate
-- that it may answer was weighed on each box; only open leaves were split
pub record FollowsGuide (weigh : OfMultipliers) (try : OfCandidates) (cut : OfCuts) (s : System) (gap : ℤ) (o : Outcome) : Type 0 where
  pub root_line : IsLine weigh s s.root o.root
  pub leaf_lines : (i : ℕ) → IsLeaf o.tree i → IsLeafLine weigh s (box_of o.tree i) (node_at o.tree.nodes i).mult
  pub cuts : (i j : ℕ) (c : ℤ) (l r : ℕ) → i < length o.tree.nodes → (node_at o.tree.nodes i).node ≡ Split j c l r → IsCutLine cut s (box_of o.tree i) j c
  pub candidates : (i : ℕ) → i < length o.tree.nodes → WeighsOne try s (named_value o.verdict) (box_of o.tree i)
  pub splits : SplitsOpen weigh try s gap o
