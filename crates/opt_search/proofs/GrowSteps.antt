-- An open leaf is split, and its two halves are settled one after the other.
use Rattle.std.proofs.Common.{◌≡◌, ℕ, ◌+◌, List, length, Option, ℤ, ap, ◌∙◌, arith}
use Rattle.opt_system.specs.Systems.{System}
use Rattle.opt_bound.specs.declared.leaf.Leaf.{Leaf}
use Rattle.opt_tree.specs.Nodes.{IsLeaf, box_of}
use Rattle.opt_tree.proofs.SameShape.{SameShape, same_length}
use Rattle.opt_guide.specs.Relations.{OfMultipliers, OfCandidates, OfCuts}
use Rattle.opt_search.specs.declared.state.State.{State}
use Rattle.opt_search.specs.Guided.{IsCutLine}
use Rattle.opt_search.specs.State.{IsLed, IsComplete, SettlesBox}
use Rattle.opt_search.proofs.SettleSteps.{same_mult, leaf_on, led_settle}
use Rattle.opt_search.proofs.SplitSteps.{IsParting, left_is_leaf, right_is_leaf, two_more, led_split}

-- ---- a settled box keeps the tree's shape
settled_shape : (weigh : OfMultipliers) (try : OfCandidates) (s : System) (old new : State) (node i : ℕ) → SettlesBox weigh try s old new node (box_of old.tree i) → SameShape old.tree new.tree
settled_shape weigh try s old new node i h = same_mult old new node h.line h.tree

-- ---- before the left half is settled
pub left_next : (s : System) (gap : ℤ) (old new : State) (bound : ℤ) (leaf j : ℕ) (c : ℤ) → IsParting s gap old new bound leaf j c → length new.shown.items ≡ length old.tree.nodes
left_next s gap old new bound leaf j c h = ap (λ (xs : List Leaf). length xs) h.splits.shown ∙ h.complete

-- ---- both halves
pub record IsGrowing (weigh : OfMultipliers) (try : OfCandidates) (s : System) (gap : ℤ) (old parted mid : State) (bound : ℤ) (leaf j : ℕ) (c : ℤ) : Type 0 where
  pub parting : IsParting s gap old parted bound leaf j c
  pub left : SettlesBox weigh try s parted mid (length old.tree.nodes) (box_of parted.tree (length old.tree.nodes))

pub right_leaf : (weigh : OfMultipliers) (try : OfCandidates) (s : System) (gap : ℤ) (old parted mid : State) (bound : ℤ) (leaf j : ℕ) (c : ℤ) → IsGrowing weigh try s gap old parted mid bound leaf j c → IsLeaf mid.tree (length old.tree.nodes + 1)
right_leaf weigh try s gap old parted mid bound leaf j c h =
    leaf_on parted.tree mid.tree (length old.tree.nodes + 1) (settled_shape weigh try s parted mid (length old.tree.nodes) (length old.tree.nodes) h.left)
    (right_is_leaf s gap old parted bound leaf j c h.parting)

pub grown_count : (weigh : OfMultipliers) (try : OfCandidates) (s : System) (gap : ℤ) (old parted mid new : State) (bound : ℤ) (leaf j : ℕ) (c : ℤ) → IsGrowing weigh try s gap old parted mid bound leaf j c → SettlesBox weigh try s mid new (length old.tree.nodes + 1) (box_of mid.tree (length old.tree.nodes + 1)) → length new.tree.nodes ≡ length old.tree.nodes + 2
grown_count weigh try s gap old parted mid new bound leaf j c h right =
    same_length mid.tree new.tree (settled_shape weigh try s mid new (length old.tree.nodes + 1) (length old.tree.nodes + 1) right)
    ∙ same_length parted.tree mid.tree (settled_shape weigh try s parted mid (length old.tree.nodes) (length old.tree.nodes) h.left)
    ∙ two_more s gap old parted bound leaf j c h.parting

pub grown_complete : (weigh : OfMultipliers) (try : OfCandidates) (s : System) (gap : ℤ) (old parted mid new : State) (bound : ℤ) (leaf j : ℕ) (c : ℤ) → IsGrowing weigh try s gap old parted mid bound leaf j c → SettlesBox weigh try s mid new (length old.tree.nodes + 1) (box_of mid.tree (length old.tree.nodes + 1)) → IsComplete new
grown_complete weigh try s gap old parted mid new bound leaf j c h right =
    omega (arith, right.settled, grown_count weigh try s gap old parted mid new bound leaf j c h right)

pub grown_led : (weigh : OfMultipliers) (try : OfCandidates) (cut : OfCuts) (s : System) (gap : ℤ) (first : Option (List ℤ)) (old parted mid new : State) (bound : ℤ) (leaf j : ℕ) (c : ℤ) → IsGrowing weigh try s gap old parted mid bound leaf j c → SettlesBox weigh try s mid new (length old.tree.nodes + 1) (box_of mid.tree (length old.tree.nodes + 1)) → IsCutLine cut s (box_of old.tree leaf) j c → IsLed weigh try cut s gap first old → IsLed weigh try cut s gap first new
grown_led weigh try cut s gap first old parted mid new bound leaf j c h right line led =
    led_settle weigh try cut s gap first mid new (length old.tree.nodes + 1)
    (led_settle weigh try cut s gap first parted mid (length old.tree.nodes) (led_split weigh try cut s gap first old parted bound leaf j c h.parting line led) h.left (left_next s gap old parted bound leaf j c h.parting) (left_is_leaf s gap old parted bound leaf j c h.parting))
    right h.left.settled (right_leaf weigh try s gap old parted mid bound leaf j c h)
