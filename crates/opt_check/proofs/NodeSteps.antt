-- The steps of the loop over a certificate's nodes.
use Rattle.std.proofs.Common.{◌≡◌, ℕ, ◌≤◌, List, drop, All}
use Rattle.opt_system.specs.Ranges.{Range, LiesIn}
use Rattle.opt_system.specs.Systems.{System}
use Rattle.opt_tree.specs.declared.cert_node.CertNode.{CertNode}
use Rattle.opt_tree.specs.Shown.{Known, Seen}
use Rattle.opt_tree.specs.Reading.{run, first_read}

-- so many nodes were taken, and the rest shows what all of them do
pub record Runs (s : System) (k : Known) (nodes : List CertNode) (taken : ℕ) (seen : Seen) (boxes : List Range) : Type 0 where
  pub rest : run s k (first_read s) nodes ≡ run s k (record { seen = seen; waiting = boxes }) (drop taken nodes)
  pub within : All (LiesIn s.root) boxes
  pub counted : seen.nodes ≤ taken
