-- A tree whose nodes are the same but for their multipliers.
use Rattle.std.proofs.Common.{◌≡◌, ℕ, zero, suc, List, [], ◌∷◌, length, get_or, None, is_some, sum_by, refl, subst, ap, sym, ◌∙◌, arith}
use Rattle.std.proofs.lemmas.List.{length-map}
use Rattle.std.proofs.Math.Seq.{map-set_same}
use Rattle.opt_system.specs.Ranges.{Range, IsOrdered}
use Rattle.opt_system.specs.Cuts.{IsCut}
use Rattle.opt_bound.specs.Multipliers.{Multipliers}
use Rattle.opt_tree.specs.declared.node.Node.TheVariants.{Leaf}
use Rattle.opt_tree.specs.declared.node.TreeNode.{TreeNode}
use Rattle.opt_tree.specs.Nodes.{Tree, IsTree, IsLinked, IsSplit, IsInward, is_child, node_at, boxes_from, links, kinds, leaf_weight, box_of, with_mult}

-- what node i is and its link, by the lists of these
pub kind_of : (nodes : List TreeNode) (i : ℕ) → (node_at nodes i).node ≡ get_or (kinds nodes) i Leaf
kind_of [] i = refl
kind_of (n ∷ ns) zero = refl
kind_of (n ∷ ns) (suc i) = kind_of ns i

pub link_of : (nodes : List TreeNode) (i : ℕ) → (node_at nodes i).link ≡ get_or (links nodes) i None
link_of [] i = refl
link_of (n ∷ ns) zero = refl
link_of (n ∷ ns) (suc i) = link_of ns i

pub record SameShape (t u : Tree) : Type 0 where
  pub root : u.root ≡ t.root
  pub kinds : kinds u.nodes ≡ kinds t.nodes
  pub links : links u.nodes ≡ links t.nodes

pub same_length : (t u : Tree) → SameShape t u → length u.nodes ≡ length t.nodes
same_length t u same = sym (length-map u.nodes (λ (n : TreeNode). n.link)) ∙ ap length same.links ∙ length-map t.nodes (λ (n : TreeNode). n.link)

pub same_box : (t u : Tree) → SameShape t u → (i : ℕ) → box_of u i ≡ box_of t i
same_box t u same i =
    ap (λ (r : Range). get_or (boxes_from r [] (links u.nodes)) i r) same.root ∙ ap (λ ls. get_or (boxes_from t.root [] ls) i t.root) same.links

pub same_kind : (t u : Tree) → SameShape t u → (i : ℕ) → (node_at u.nodes i).node ≡ (node_at t.nodes i).node
same_kind t u same i = kind_of u.nodes i ∙ ap (λ ks. get_or ks i Leaf) same.kinds ∙ sym (kind_of t.nodes i)

pub same_link : (t u : Tree) → SameShape t u → (i : ℕ) → (node_at u.nodes i).link ≡ (node_at t.nodes i).link
same_link t u same i = link_of u.nodes i ∙ ap (λ ls. get_or ls i None) same.links ∙ sym (link_of t.nodes i)

pub IsTree-same : (t u : Tree) → SameShape t u → IsTree t → IsTree u
IsTree-same t u same tree =
    let n : length u.nodes ≡ length t.nodes = same_length t u same in
    record {
      ordered = subst (λ (r : Range). IsOrdered r) (sym same.root) tree.ordered;
      has_root = omega (arith, tree.has_root);
      few = omega (arith, tree.few);
      root_link = same_link t u same 0 ∙ tree.root_link;
      each_linked = λ i from below. ap is_some (same_link t u same i) ∙ tree.each_linked i from (omega arith);
      linked = λ i k below is.
          let old : IsLinked t i k = tree.linked i k (omega arith) (sym (same_link t u same i) ∙ is) in
          record {
            later = old.later;
            child = ap (λ m. is_child m i) (same_kind t u same k.parent) ∙ old.child;
            inward = subst (λ (b : Range). IsInward b k) (sym (same_box t u same k.parent)) old.inward;
          };
      splits = λ i j c l r below is.
          let old : IsSplit t i j c l r = tree.splits i j c l r (omega arith) (sym (same_kind t u same i) ∙ is) in
          record {
            cut = subst (λ (b : Range). IsCut b j c) (sym (same_box t u same i)) old.cut;
            left_later = old.left_later;
            right_later = old.right_later;
            left_in_tree = omega (arith, old.left_in_tree);
            right_in_tree = omega (arith, old.right_in_tree);
            left_link = same_link t u same l ∙ old.left_link;
            right_link = same_link t u same r ∙ old.right_link;
          };
      leaves = omega (arith, n, ap (sum_by leaf_weight) same.kinds, tree.leaves);
    }

pub SameShape-with_mult : (t : Tree) (i : ℕ) (m : Multipliers) → SameShape t (with_mult t i m)
SameShape-with_mult t i m = record {
  root = refl;
  kinds = map-set_same (λ (n : TreeNode). n.node) t.nodes i (record { node = (node_at t.nodes i).node; mult = m; link = (node_at t.nodes i).link }) _ refl;
  links = map-set_same (λ (n : TreeNode). n.link) t.nodes i (record { node = (node_at t.nodes i).node; mult = m; link = (node_at t.nodes i).link }) _ refl;
}

pub IsTree-with_mult : (t : Tree) (i : ℕ) (m : Multipliers) → IsTree t → IsTree (with_mult t i m)
IsTree-with_mult t i m tree = IsTree-same t (with_mult t i m) (SameShape-with_mult t i m) tree
