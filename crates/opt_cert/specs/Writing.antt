-- How a certificate's text grows while it is written.
use Rattle.std.specs.Prelude.{◌≡◌, ℕ, List, ◌∷◌, ◌++◌, length, map, reverse, OnOk, Result}
use Rattle.std.specs.List.{flat_map}
use Rattle.opt_tree.specs.declared.cert_node.CertNode.{CertNode}
use Rattle.opt_tree.specs.Trees.{preorder}
use Rattle.opt_tree.specs.Nodes.{Tree, tree_at}
use Rattle.opt_cert.specs.Texts.{text_of_lines, node_line}

-- where the call succeeds, these bytes stand at the end of what was there
abbrev pub Adds : {A E : Type 0} → Result A E → List ℕ → List ℕ → List ℕ → Type 0
Adds result old more new = OnOk result (new ≡ old ++ more)

-- each word after a space
abbrev pub spaced : List (List ℕ) → List ℕ
spaced words = flat_map (λ w. 32 ∷ w) words

-- the lines of these nodes
abbrev pub node_lines : List CertNode → List ℕ
node_lines nodes = text_of_lines (map node_line nodes)

-- the nodes of the tree at node i, in order
abbrev pub nodes_at : Tree → ℕ → List CertNode
nodes_at t i = preorder (tree_at (length t.nodes) t.nodes i)

-- the nodes of the trees that wait, in order; the tree that was noted last comes first
abbrev pub nodes_left : Tree → List ℕ → List CertNode
nodes_left t waiting = flat_map (nodes_at t) (reverse waiting)
