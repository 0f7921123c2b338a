-- What a certificate shows of a system: its verdict, or the first fault. The root line is judged first, then the point,
-- then the nodes in order, then what all of them show together.
use Rattle.std.specs.Prelude.{ℕ, ◌+◌, nat_lt, nat_le, Bool, true, false, not, ◌&&◌, ◌||◌, if◌then◌else◌, List, [], ◌∷◌, length, Option, Some, None, is_none, Result, Ok, Err, ℤ, pos, ◌-ℤ◌, int_le, int_lt}
use Rattle.std.specs.Int.{int_min, int_max}
use Rattle.std.specs.Ordering.{int_eq}
use Rattle.opt_base.specs.Answers.{◌>>=◌}
use Rattle.opt_base.specs.declared.verdict.Verdict.{Verdict}
use Rattle.opt_base.specs.declared.verdict.Verdict.TheVariants as verdict
use Rattle.opt_sums.specs.Sums.{at}
use Rattle.opt_system.specs.Ranges.{Range}
use Rattle.opt_system.specs.Broken.{first_broken_of}
use Rattle.opt_system.specs.Cuts.{is_cut, left_half, right_half}
use Rattle.opt_system.specs.Systems.{System, value}
use Rattle.opt_bound.specs.declared.leaf.Leaf.{Leaf}
use Rattle.opt_bound.specs.declared.leaf.Leaf.TheVariants.{Empty, AtLeast}
use Rattle.opt_bound.specs.declared.fault.EntryFault.{EntryFault}
use Rattle.opt_bound.specs.declared.fault.EntryFault.TheVariants as entry
use Rattle.opt_bound.specs.Multipliers.{Multipliers}
use Rattle.opt_bound.specs.Bound.{bound_of}
use Rattle.opt_bound.specs.Faults.{first_fault_of}
use Rattle.opt_bound.specs.Verdict.{leaf_of}
use Rattle.opt_tree.specs.declared.check_fault.CheckFault.{CheckFault}
use Rattle.opt_tree.specs.declared.check_fault.CheckFault.TheVariants.{RootLine, PlanRange, PlanBroken, WrongObjective, CutRange, RowNumber, Sign, LeafOpen, UnderLimit, NothingOpen, WrongBound}
use Rattle.opt_tree.specs.Trees.{BoxTree, leaf, split}
use Rattle.opt_tree.specs.Certificates.{Certificate, named_value, point_of}

-- what multipliers show of a box
abbrev pub leaf_at : System → Range → Multipliers → Leaf
leaf_at s box m = leaf_of (bound_of s box m) m.q

-- ---- the root line
-- the lower bound that the root's leaf gives; where no point meets the rows, only NoPlan may be the verdict, and it counts as 0
abbrev pub root_bound_of : Verdict → Leaf → Result ℤ CheckFault
root_bound_of v (AtLeast bound) = Ok bound
root_bound_of verdict.NoPlan Empty = Ok (pos 0)
root_bound_of (verdict.Plan objective bound) Empty = Err RootLine
root_bound_of (verdict.Unfinished bound best) Empty = Err RootLine

-- the lower bound that the root line shows of the whole system
abbrev pub look_root : System → Verdict → Multipliers → Result ℤ CheckFault
look_root s v m =
    if is_none (first_fault_of s m.entries) then root_bound_of v (leaf_at s s.root m) else Err RootLine

-- ---- the point
-- the first quantity from j on, of this many, whose value leaves its range
abbrev pub first_outside_from : ℕ → List ℤ → List ℤ → List ℤ → Option ℕ
first_outside_from j (low ∷ lows) (high ∷ highs) (v ∷ x) =
    if int_le low v && int_le v high then first_outside_from (j + 1) lows highs x else Some j
first_outside_from j lows highs x = None

-- the first quantity whose value leaves its range
abbrev pub first_outside : Range → List ℤ → Option ℕ
first_outside box x = first_outside_from 0 box.low box.high x

-- the first listed quantity that does not exist
abbrev pub first_unknown : ℕ → List (ℕ × ℤ) → Option ℕ
first_unknown quantities [] = None
first_unknown quantities (e ∷ es) = if nat_lt e.0 quantities then first_unknown quantities es else Some e.0

-- a value, or the fault that the number found makes
abbrev pub unless_found : {A : Type 0} → Option ℕ → (ℕ → CheckFault) → A → Result A CheckFault
unless_found None fault a = Ok a
unless_found (Some n) fault a = Err (fault n)

-- whether the verdict names just this value as its objective or best
abbrev pub names_value : Option ℤ → ℤ → Bool
names_value None v = false
names_value (Some o) v = int_eq o v

abbrev pub look_objective : Verdict → ℤ → Result ℤ CheckFault
look_objective v o = if names_value (named_value v) o then Ok o else Err (WrongObjective o)

-- the point that these entries list, where each quantity is in its range and each listed one exists
abbrev pub look_range : System → List (ℕ × ℤ) → Result (List ℤ) CheckFault
look_range s entries =
    unless_found (first_outside s.root (point_of (length s.cost) entries)) PlanRange (point_of (length s.cost) entries)
    >>= λ x. unless_found (first_unknown (length s.cost) entries) PlanRange x

-- the value of the point that these entries list: its ranges first, then its rows, then what the verdict names
abbrev pub look_entries : System → Verdict → List (ℕ × ℤ) → Result ℤ CheckFault
look_entries s v entries =
    look_range s entries
    >>= λ x. unless_found (first_broken_of s.rows x) PlanBroken x
    >>= λ y. look_objective v (value s y)

-- the value of the listed point, where one is listed
abbrev pub look_point : System → Verdict → Option (List (ℕ × ℤ)) → Result (Option ℤ) CheckFault
look_point s v None = Ok None
look_point s v (Some entries) = look_entries s v entries >>= λ o. Ok (Some o)

-- ---- the leaves
-- what is known when the tree is looked through: whether each leaf has to be closed, the lower bound of the root line,
-- the value of the best point, and the permitted gap
pub record Known : Type 0 where
  pub must_close : Bool
  pub root_bound : ℤ
  pub best : Option ℤ
  pub gap : ℤ

-- whether no point of at least this bound needs to be looked for: a best point is known, and the gap reaches it
abbrev pub is_reached : Option ℤ → ℤ → ℤ → Bool
is_reached None gap bound = false
is_reached (Some best) gap bound = int_le (best -ℤ gap) bound

-- whether the leaf needs no further split
abbrev pub is_closed : Known → Leaf → Bool
is_closed k Empty = true
is_closed k (AtLeast bound) = is_reached k.best k.gap (int_max k.root_bound bound)

-- what was seen of the nodes so far: how many they are, the least lower bound of their leaves that are not empty, and
-- whether one of these is open
pub record Seen : Type 0 where
  pub nodes : ℕ
  pub least : Option ℤ
  pub any_open : Bool

abbrev pub nothing_seen : Seen
nothing_seen = record { nodes = 0; least = None; any_open = false }

abbrev pub least_with : Option ℤ → ℤ → ℤ
least_with None bound = bound
least_with (Some least) bound = int_min least bound

-- one split more
abbrev pub with_split : Seen → Seen
with_split seen = record { nodes = seen.nodes + 1; least = seen.least; any_open = seen.any_open }

-- one leaf more
abbrev pub with_leaf : Known → Seen → Leaf → Seen
with_leaf k seen Empty = record { nodes = seen.nodes + 1; least = seen.least; any_open = seen.any_open }
with_leaf k seen (AtLeast bound) =
    record { nodes = seen.nodes + 1; least = Some (least_with seen.least bound); any_open = seen.any_open || not (is_closed k (AtLeast bound)) }

-- the lower bound that is shown of a leaf
abbrev pub shown_bound : Known → Leaf → ℤ
shown_bound k Empty = k.root_bound
shown_bound k (AtLeast bound) = int_max k.root_bound bound

abbrev pub judge_leaf : Known → Seen → Leaf → Result Seen CheckFault
judge_leaf k seen l =
    if k.must_close && not (is_closed k l) then Err (LeafOpen seen.nodes (shown_bound k l)) else Ok (with_leaf k seen l)

-- the fault of a wrong entry in a leaf
abbrev pub fault_at : ℕ → EntryFault → CheckFault
fault_at node (entry.RowNumber row) = RowNumber node row
fault_at node (entry.Sign row) = Sign node row

abbrev pub unless_wrong : {A : Type 0} → Option EntryFault → ℕ → A → Result A CheckFault
unless_wrong None node a = Ok a
unless_wrong (Some fault) node a = Err (fault_at node fault)

-- a leaf's multipliers are judged on its box
abbrev pub look_leaf : System → Known → Seen → Range → Multipliers → Result Seen CheckFault
look_leaf s k seen box m =
    unless_wrong (first_fault_of s m.entries) seen.nodes m >>= λ y. judge_leaf k seen (leaf_at s box y)

-- ---- the tree
abbrev pub look_cut : Seen → Range → ℕ → ℤ → Result Seen CheckFault
look_cut seen box j t = if is_cut box j t then Ok (with_split seen) else Err (CutRange seen.nodes)

-- the nodes of the tree one by one, each split before its left tree and that before its right tree, up to the first fault
abbrev pub look : System → Known → Seen → Range → BoxTree → Result Seen CheckFault
look s k seen box (leaf m) = look_leaf s k seen box m
look s k seen box (split j t left right) =
    look_cut seen box j t
    >>= λ a. look s k a (left_half box j t) left
    >>= λ b. look s k b (right_half box j t) right

-- ---- what all leaves show together
-- no greater than the best value, where there is one
abbrev pub lowered : Option ℤ → ℤ → ℤ
lowered None bound = bound
lowered (Some best) bound = int_min best bound

-- the bound that is shown: the least lower bound of the leaves, at least that of the root line and at most the best
-- value; where all leaves are empty, the best value
abbrev pub bound_shown : ℤ → Option ℤ → Option ℤ → ℤ
bound_shown root_bound best (Some least) = lowered best (int_max root_bound least)
bound_shown root_bound (Some best) None = best
bound_shown root_bound None None = root_bound

abbrev pub judge_bound : Verdict → Known → Option ℤ → ℤ → Result Verdict CheckFault
judge_bound v k least printed =
    let shown = bound_shown k.root_bound k.best least in
    if int_eq printed shown then Ok v else Err (WrongBound shown)

abbrev pub conclude : ℕ → Verdict → Known → Seen → Result Verdict CheckFault
conclude limit (verdict.Plan objective bound) k seen = judge_bound (verdict.Plan objective bound) k seen.least bound
conclude limit verdict.NoPlan k seen = Ok verdict.NoPlan
conclude limit (verdict.Unfinished bound best) k seen =
    if nat_le (seen.nodes + 2) limit
    then Err (UnderLimit seen.nodes)
    else if seen.any_open
    then judge_bound (verdict.Unfinished bound best) k seen.least bound
    else Err NothingOpen

-- whether the verdict says that each leaf is closed
abbrev pub must_close : Verdict → Bool
must_close (verdict.Plan objective bound) = true
must_close verdict.NoPlan = true
must_close (verdict.Unfinished bound best) = false

-- what is known once the root line and the point were judged
abbrev pub known_of : Verdict → ℤ → ℤ → Option ℤ → Known
known_of v gap root_bound best = record { must_close = must_close v; root_bound = root_bound; best = best; gap = gap }

-- the certificate's verdict, or the first fault
abbrev pub shown : System → ℤ → ℕ → Certificate → Result Verdict CheckFault
shown s gap limit c =
    look_root s c.verdict c.root
    >>= λ root_bound. look_point s c.verdict c.point
    >>= λ best. look s (known_of c.verdict gap root_bound best) nothing_seen s.root c.tree
    >>= λ seen. conclude limit c.verdict (known_of c.verdict gap root_bound best) seen
