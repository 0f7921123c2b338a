-- What a certificate shows is a verdict or a fault of its own, and never want of memory.
use Rattle.std.proofs.Common.{◌≡◌, ◌≢◌, ℕ, Bool, true, false, ◌&&◌, not, cond, List, length, Option, Some, None, is_none, Result, Ok, Err, ℤ, ap}
use Rattle.std.specs.Ordering.{int_eq}
use Rattle.opt_base.specs.Answers.{◌>>=◌}
use Rattle.opt_base.specs.declared.verdict.Verdict.{Verdict}
use Rattle.opt_base.specs.declared.verdict.Verdict.TheVariants as verdict
use Rattle.opt_system.specs.Broken.{first_broken_of}
use Rattle.opt_system.specs.Cuts.{is_cut, left_half, right_half}
use Rattle.opt_system.specs.Ranges.{Range}
use Rattle.opt_system.specs.Systems.{System, value}
use Rattle.opt_bound.specs.Faults.{first_fault_of}
use Rattle.opt_bound.specs.Multipliers.{Multipliers}
use Rattle.opt_bound.specs.declared.fault.EntryFault.{EntryFault}
use Rattle.opt_bound.specs.declared.fault.EntryFault.TheVariants as entry
use Rattle.opt_bound.specs.declared.leaf.Leaf.{Leaf}
use Rattle.opt_bound.specs.declared.leaf.Leaf.TheVariants.{Empty, AtLeast}
use Rattle.opt_tree.specs.declared.check_fault.CheckFault.{CheckFault}
use Rattle.opt_tree.specs.declared.check_fault.CheckFault.TheVariants.{RootLine, PlanRange, PlanBroken, WrongObjective, CutRange, LeafOpen, UnderLimit, NothingOpen, WrongBound, OutOfMemory}
use Rattle.opt_tree.specs.Certificates.{Certificate, named_value, point_of}
use Rattle.opt_tree.specs.Trees.{BoxTree, leaf, split}
use Rattle.opt_tree.specs.Shown.{leaf_at, root_bound_of, look_root, first_outside, first_unknown, unless_found, names_value, look_objective, look_range, look_entries, look_point, Known, Seen, is_closed, with_leaf, with_split, shown_bound, judge_leaf, fault_at, unless_wrong, look_leaf, look_cut, look, nothing_seen, bound_shown, judge_bound, conclude, known_of, shown}

-- not want of memory
abbrev pub IsOwn : {A : Type 0} → Result A CheckFault → Type 0
IsOwn r = r ≡ Err OutOfMemory → ⊥

own_ok : {A : Type 0} (x : A) → IsOwn (Ok x)
own_ok x = λ e. cc

then_own : {A B : Type 0} (r : Result A CheckFault) (f : A → Result B CheckFault) → IsOwn r → ((x : A) → IsOwn (f x)) → IsOwn (r >>= f)
then_own (Ok x) f h g = g x
then_own {A = A} (Err fault) f h g = λ e. h (same e)
  where
    same : {B : Type 0} → ◌≡◌ {A = Result B CheckFault} (Err fault) (Err OutOfMemory) → ◌≡◌ {A = Result A CheckFault} (Err fault) (Err OutOfMemory)
    same e = let f : fault ≡ OutOfMemory = cc in ap Err f

if_own : {A : Type 0} (b : Bool) (x y : Result A CheckFault) → IsOwn x → IsOwn y → IsOwn (cond b x y)
if_own true x y g h = g
if_own false x y g h = h

-- ---- the root line
root_bound_own : (v : Verdict) (l : Leaf) → IsOwn (root_bound_of v l)
root_bound_own v (AtLeast bound) = λ e. cc
root_bound_own (verdict.Plan objective bound) Empty = λ e. cc
root_bound_own verdict.NoPlan Empty = λ e. cc
root_bound_own (verdict.Unfinished bound best) Empty = λ e. cc

root_own : (s : System) (v : Verdict) (m : Multipliers) → IsOwn (look_root s v m)
root_own s v m =
    if_own (is_none (first_fault_of s m.entries)) (root_bound_of v (leaf_at s s.root m)) (Err RootLine) (root_bound_own v (leaf_at s s.root m)) (λ e. cc)

-- ---- the point
range_found : {A : Type 0} (o : Option ℕ) (a : A) → IsOwn (unless_found o PlanRange a)
range_found None a = λ e. cc
range_found (Some n) a = λ e. cc

broken_found : {A : Type 0} (o : Option ℕ) (a : A) → IsOwn (unless_found o PlanBroken a)
broken_found None a = λ e. cc
broken_found (Some n) a = λ e. cc

objective_own : (v : Verdict) (o : ℤ) → IsOwn (look_objective v o)
objective_own v o = if_own (names_value (named_value v) o) (Ok o) (Err (WrongObjective o)) (own_ok o) (λ e. cc)

range_own : (s : System) (es : List (ℕ × ℤ)) → IsOwn (look_range s es)
range_own s es =
    then_own (unless_found (first_outside s.root (point_of (length s.cost) es)) PlanRange (point_of (length s.cost) es))
    (λ x. unless_found (first_unknown (length s.cost) es) PlanRange x)
    (range_found (first_outside s.root (point_of (length s.cost) es)) (point_of (length s.cost) es))
    (λ x. range_found (first_unknown (length s.cost) es) x)

entries_own : (s : System) (v : Verdict) (es : List (ℕ × ℤ)) → IsOwn (look_entries s v es)
entries_own s v es =
    then_own (look_range s es) (λ x. unless_found (first_broken_of s.rows x) PlanBroken x >>= λ y. look_objective v (value s y)) (range_own s es)
    (λ x. then_own (unless_found (first_broken_of s.rows x) PlanBroken x) (λ y. look_objective v (value s y)) (broken_found (first_broken_of s.rows x) x) (λ y. objective_own v (value s y)))

point_own : (s : System) (v : Verdict) (point : Option (List (ℕ × ℤ))) → IsOwn (look_point s v point)
point_own s v None = λ e. cc
point_own s v (Some es) = then_own (look_entries s v es) (λ o. Ok (Some o)) (entries_own s v es) (λ o. own_ok (Some o))

-- ---- the tree
judge_own : (k : Known) (seen : Seen) (l : Leaf) → IsOwn (judge_leaf k seen l)
judge_own k seen l =
    if_own (k.must_close && not (is_closed k l)) (Err (LeafOpen seen.nodes (shown_bound k l))) (Ok (with_leaf k seen l)) (λ e. cc) (own_ok (with_leaf k seen l))

wrong_own : {A : Type 0} (o : Option EntryFault) (node : ℕ) (a : A) → IsOwn (unless_wrong o node a)
wrong_own None node a = λ e. cc
wrong_own (Some (entry.RowNumber row)) node a = λ e. cc
wrong_own (Some (entry.Sign row)) node a = λ e. cc

tree_own : (s : System) (k : Known) (t : BoxTree) (seen : Seen) (box : Range) → IsOwn (look s k seen box t)
tree_own s k (leaf m) seen box =
    then_own (unless_wrong (first_fault_of s m.entries) seen.nodes m) (λ y. judge_leaf k seen (leaf_at s box y)) (wrong_own (first_fault_of s m.entries) seen.nodes m) (λ y. judge_own k seen (leaf_at s box y))
tree_own s k (split j t left right) seen box =
    then_own (look_cut seen box j t) (λ a. look s k a (left_half box j t) left >>= λ b. look s k b (right_half box j t) right)
    (if_own (is_cut box j t) (Ok (with_split seen)) (Err (CutRange seen.nodes)) (own_ok (with_split seen)) (λ e. cc))
    (λ a. then_own (look s k a (left_half box j t) left) (λ b. look s k b (right_half box j t) right) (tree_own s k left a (left_half box j t)) (λ b. tree_own s k right b (right_half box j t)))

-- ---- all nodes together
bound_own : (v : Verdict) (k : Known) (least : Option ℤ) (printed : ℤ) → IsOwn (judge_bound v k least printed)
bound_own v k least printed =
    if_own (int_eq printed (bound_shown k.root_bound k.best least)) (Ok v) (Err (WrongBound (bound_shown k.root_bound k.best least))) (own_ok v) (λ e. cc)

concluded_own : (limit : ℕ) (v : Verdict) (k : Known) (seen : Seen) → IsOwn (conclude limit v k seen)
concluded_own limit (verdict.Plan objective bound) k seen = bound_own (verdict.Plan objective bound) k seen.least bound
concluded_own limit verdict.NoPlan k seen = λ e. cc
concluded_own limit (verdict.Unfinished bound best) k seen =
    if_own _ (Err (UnderLimit seen.nodes)) _ (λ e. cc)
    (if_own seen.any_open (judge_bound (verdict.Unfinished bound best) k seen.least bound) (Err NothingOpen) (bound_own (verdict.Unfinished bound best) k seen.least bound) (λ e. cc))

-- what a certificate shows is never want of memory
pub shown_own : (s : System) (gap : ℤ) (limit : ℕ) (c : Certificate) → IsOwn (shown s gap limit c)
shown_own s gap limit c =
    then_own (look_root s c.verdict c.root)
    (λ b. look_point s c.verdict c.point >>= λ best. look s (known_of c.verdict gap b best) nothing_seen s.root c.tree >>= λ seen. conclude limit c.verdict (known_of c.verdict gap b best) seen)
    (root_own s c.verdict c.root)
    (λ b. then_own (look_point s c.verdict c.point)
    (λ best. look s (known_of c.verdict gap b best) nothing_seen s.root c.tree >>= λ seen. conclude limit c.verdict (known_of c.verdict gap b best) seen)
    (point_own s c.verdict c.point)
    (λ best. then_own (look s (known_of c.verdict gap b best) nothing_seen s.root c.tree) (conclude limit c.verdict (known_of c.verdict gap b best))
    (tree_own s (known_of c.verdict gap b best) c.tree nothing_seen s.root)
    (λ seen. concluded_own limit c.verdict (known_of c.verdict gap b best) seen)))
