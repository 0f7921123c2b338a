-- What is judged before the nodes, and what is seen of the nodes.
use Rattle.std.specs.Prelude.{ℕ, List, Option, Result, Ok, ℤ}
use Rattle.opt_base.specs.Answers.{◌>>=◌}
use Rattle.opt_base.specs.declared.verdict.Verdict.{Verdict}
use Rattle.opt_system.specs.Systems.{System}
use Rattle.opt_bound.specs.Multipliers.{Multipliers}
use Rattle.opt_tree.specs.declared.check_fault.CheckFault.{CheckFault}
use Rattle.opt_tree.specs.declared.cert_node.CertNode.{CertNode}
use Rattle.opt_tree.specs.Reading.{run, first_read}
use Rattle.opt_tree.specs.Shown.{Known, Seen, look_root, look_point, known_of}

-- what is known once the root line and then the point were judged
abbrev pub look_claims : System → ℤ → Verdict → Multipliers → Option (List (ℕ × ℤ)) → Result Known CheckFault
look_claims s gap v root point =
    look_root s v root >>= λ root_bound. look_point s v point >>= λ best. Ok (known_of v gap root_bound best)

-- what is seen of the nodes in order, on boxes that begin with the root's
abbrev pub look_nodes : System → Known → List CertNode → Result Seen CheckFault
look_nodes s k nodes = run s k (first_read s) nodes >>= λ read. Ok read.seen
