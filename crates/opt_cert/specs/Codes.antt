-- Trees and certificates are told apart by the nodes of the tree in order, from which the tree is got back.
use Rattle.std.specs.Prelude.{◌≡◌, ℕ, List, [], ◌∷◌, ◌++◌, ◌⊎◌, Option, Some, None, ℤ}
use Rattle.std.specs.Coded.{Coded, code_by, coded_ℕ, coded_ℤ, coded_list, coded_option, coded×, coded⊎}
use Rattle.std.proofs.Common.{refl, sym, ap, ◌∙◌, inl, inr}
use mathlib.Core.List.{append-nil, append_assoc}
use Rattle.opt_base.specs.declared.verdict.Verdict.{Verdict}
use Rattle.opt_base.specs.declared.verdict.Verdict.TheVariants as verdict
use Rattle.opt_bound.specs.Multipliers.{Multipliers}
use Rattle.opt_tree.specs.declared.cert_node.CertNode.{CertNode}
use Rattle.opt_tree.specs.declared.cert_node.CertNode.TheVariants as node
use Rattle.opt_tree.specs.Trees.{BoxTree, leaf, split, preorder}
use Rattle.opt_tree.specs.Certificates.{Certificate}
use Rattle.opt_cert.specs.Forests.{joined, forest, first_tree, tree_of_nodes}

-- the nodes of a tree, and further nodes, are that tree and further trees
pub forest-preorder : (t : BoxTree) (nodes : List CertNode) → forest (preorder t ++ nodes) ≡ t ∷ forest nodes
forest-preorder (leaf m) nodes = refl
forest-preorder (split j t left right) nodes =
    ap (λ ns. joined j t (forest ns)) (append_assoc (preorder left) (preorder right) nodes)
    ∙ ap (joined j t) (forest-preorder left (preorder right ++ nodes) ∙ ap (λ trees. left ∷ trees) (forest-preorder right nodes))

-- a tree is got back from its nodes in order
pub tree_of_nodes-preorder : (t : BoxTree) → tree_of_nodes (preorder t) ≡ t
tree_of_nodes-preorder t =
    ap tree_of_nodes (sym (append-nil (preorder t))) ∙ ap first_tree (forest-preorder t [])

abbrev Numbers : Type 0
Numbers = List (ℕ × ℤ)

abbrev coded_numbers : Coded Numbers
coded_numbers = coded_list (coded× coded_ℕ coded_ℤ)

abbrev pub coded_multipliers : Coded Multipliers
coded_multipliers =
    code_by (ℤ × Numbers) (coded× coded_ℤ coded_numbers) (λ m. (m.q, m.entries)) (λ p. record { q = p.0; entries = p.1 }) (λ _. refl)

-- a node is a cut, or its multipliers
abbrev node_parts : CertNode → (ℕ × ℤ) ⊎ Multipliers
node_parts (node.Split j t) = inl (j, t)
node_parts (node.Leaf m) = inr m

abbrev node_of_parts : (ℕ × ℤ) ⊎ Multipliers → CertNode
node_of_parts (inl cut) = node.Split cut.0 cut.1
node_of_parts (inr m) = node.Leaf m

pub node_back : (n : CertNode) → node_of_parts (node_parts n) ≡ n
node_back (node.Split j t) = refl
node_back (node.Leaf m) = refl

abbrev pub coded_node : Coded CertNode
coded_node = code_by ((ℕ × ℤ) ⊎ Multipliers) (coded⊎ (coded× coded_ℕ coded_ℤ) coded_multipliers) node_parts node_of_parts node_back

abbrev pub coded_tree : Coded BoxTree
coded_tree = code_by (List CertNode) (coded_list coded_node) preorder tree_of_nodes tree_of_nodes-preorder

-- a verdict names an objective and a bound, or a bound and a best, or nothing
abbrev verdict_parts : Verdict → Option ((ℤ × ℤ) ⊎ (ℤ × Option ℤ))
verdict_parts (verdict.Plan objective bound) = Some (inl (objective, bound))
verdict_parts (verdict.Unfinished bound best) = Some (inr (bound, best))
verdict_parts verdict.NoPlan = None

abbrev verdict_of_parts : Option ((ℤ × ℤ) ⊎ (ℤ × Option ℤ)) → Verdict
verdict_of_parts (Some (inl plan)) = verdict.Plan plan.0 plan.1
verdict_of_parts (Some (inr unfinished)) = verdict.Unfinished unfinished.0 unfinished.1
verdict_of_parts None = verdict.NoPlan

pub verdict_back : (v : Verdict) → verdict_of_parts (verdict_parts v) ≡ v
verdict_back (verdict.Plan objective bound) = refl
verdict_back verdict.NoPlan = refl
verdict_back (verdict.Unfinished bound best) = refl

abbrev coded_verdict : Coded Verdict
coded_verdict =
    code_by (Option ((ℤ × ℤ) ⊎ (ℤ × Option ℤ)))
    (coded_option (coded⊎ (coded× coded_ℤ coded_ℤ) (coded× coded_ℤ (coded_option coded_ℤ))))
    verdict_parts verdict_of_parts verdict_back

abbrev coded_point : Coded (Option Numbers)
coded_point = coded_option coded_numbers

abbrev pub coded_certificate : Coded Certificate
coded_certificate =
    code_by ((Verdict × Multipliers) × (Option Numbers × BoxTree))
    (coded× (coded× coded_verdict coded_multipliers) (coded× coded_point coded_tree))
    (λ c. ((c.verdict, c.root), (c.point, c.tree)))
    (λ p. record { verdict = p.0.0; root = p.0.1; point = p.1.0; tree = p.1.1 })
    (λ _. refl)
