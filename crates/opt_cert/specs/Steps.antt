-- A reader that goes from line to line, seen by the lines that are left.
use Rattle.std.specs.Prelude.{◌≡◌, ℕ, zero, suc, ◌+◌, ◌-◌, ◌^◌, ◌<◌, length, List, [], ◌∷◌, Option, Some, None, Result, Ok, Err}
use Rattle.opt_tree.specs.declared.cert_node.CertNode.{CertNode}
use Rattle.opt_tree.specs.declared.cert_node.CertNode.TheVariants as node
use Rattle.opt_tree.specs.Certificates.{AreWritable, IsWritableCut}
use Rattle.opt_cert.specs.declared.cert_fault.CertFault.{CertFault}
use Rattle.opt_cert.specs.declared.cert_line.CertLine.{CertLine}
use Rattle.opt_cert.specs.declared.cert_line.CertLine.TheVariants as line
use Rattle.opt_cert.specs.declared.place.Place.{Place}
use Rattle.opt_cert.specs.declared.place.Place.TheVariants as place
use Rattle.opt_cert.specs.Reading.{Reader, Fails, lines_left, onto}
use Rattle.opt_cert.specs.Texts.{node_line}

-- the line of what was read stood next, and the reader has passed it; or the fault is that of the text
abbrev pub Passes : {X : Type 0} → (X → CertLine) → Result X CertFault → Reader → Reader → Type 0
Passes view (Ok x) old new = lines_left old ≡ onto (view x) (lines_left new)
Passes view (Err fault) old new = Fails fault (lines_left old)

-- the numbers of the node are in range
abbrev pub IsWritableNode : CertNode → Type 0
IsWritableNode (node.Split j t) = IsWritableCut j t
IsWritableNode (node.Leaf m) = AreWritable m

-- how many trees are still to come after a node where so many were
abbrev pub trees_past : ℕ → CertNode → ℕ
trees_past trees (node.Split j t) = trees + 1
trees_past trees (node.Leaf m) = trees - 1

-- a node stood next, one of at least one tree that was still to come
pub record PassedNode (n : CertNode) (old new : Reader) : Type 0 where
  pub lines : lines_left old ≡ onto (node_line n) (lines_left new)
  pub writable : IsWritableNode n
  pub trees : ℕ
  pub old_place : old.place ≡ place.Nodes (suc trees)
  pub new_place : new.place ≡ place.Nodes (trees_past (suc trees) n)
  pub passed : new.passed ≡ old.passed + 1
  pub few : new.passed < 2 ^ 32
  pub shorter : length new.pieces < length old.pieces

-- no tree was still to come, and the last line stood next
pub record PassedEnd (old : Reader) : Type 0 where
  pub lines : lines_left old ≡ Ok (line.End ∷ [])
  pub place : old.place ≡ place.Nodes 0

abbrev pub PassesNode : Result (Option CertNode) CertFault → Reader → Reader → Type 0
PassesNode (Ok (Some n)) old new = PassedNode n old new
PassesNode (Ok None) old new = PassedEnd old
PassesNode (Err fault) old new = Fails fault (lines_left old)
