-- The same by a reader that takes the nodes of the tree one by one, in order, and keeps the boxes that wait for a tree.
use Rattle.std.specs.Prelude.{List, [], ◌∷◌, Result, Ok}
use Rattle.opt_base.specs.Answers.{◌>>=◌}
use Rattle.opt_system.specs.Ranges.{Range}
use Rattle.opt_system.specs.Cuts.{left_half, right_half}
use Rattle.opt_system.specs.Systems.{System}
use Rattle.opt_tree.specs.declared.cert_node.CertNode.{CertNode}
use Rattle.opt_tree.specs.declared.cert_node.CertNode.TheVariants as node
use Rattle.opt_tree.specs.declared.check_fault.CheckFault.{CheckFault}
use Rattle.opt_tree.specs.Shown.{Known, Seen, nothing_seen, look_leaf, look_cut}

-- what was seen of the nodes so far, and the boxes whose trees are still to come, the next one first
pub record Read : Type 0 where
  pub seen : Seen
  pub waiting : List Range

-- one node more, which stands on the first box that waits; where none waits nothing is read
abbrev pub take_node : System → Known → CertNode → Seen → List Range → Result Read CheckFault
take_node s k n seen [] = Ok (record { seen = seen; waiting = [] })
take_node s k (node.Leaf m) seen (box ∷ boxes) = look_leaf s k seen box m >>= λ a. Ok (record { seen = a; waiting = boxes })
take_node s k (node.Split j t) seen (box ∷ boxes) =
    look_cut seen box j t >>= λ a. Ok (record { seen = a; waiting = left_half box j t ∷ right_half box j t ∷ boxes })

-- the nodes one by one, up to the first fault
abbrev pub run : System → Known → Read → List CertNode → Result Read CheckFault
run s k at_hand [] = Ok at_hand
run s k at_hand (n ∷ nodes) = take_node s k n at_hand.seen at_hand.waiting >>= λ next. run s k next nodes

-- the root's box waits, and nothing was seen
abbrev pub first_read : System → Read
first_read s = record { seen = nothing_seen; waiting = s.root ∷ [] }
