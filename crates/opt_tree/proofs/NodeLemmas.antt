-- The boxes of the nodes of a tree, and what a change of multipliers leaves as it is.
use Rattle.std.proofs.Common.{◌≡◌, ℕ, zero, suc, ◌+◌, ◌<◌, List, [], ◌∷◌, ◌++◌, length, get_or, Option, Some, None, refl, ap, sym, ◌∙◌, append_assoc, arith}
use Rattle.std.proofs.lemmas.List.{length-map, length-append, get_or_append_left, get_or_at, append-nil, get_or-map}
use Rattle.opt_system.specs.Ranges.{Range}
use Rattle.opt_tree.specs.declared.node.Link.{Link}
use Rattle.opt_tree.specs.declared.node.TreeNode.{TreeNode}
use Rattle.opt_tree.specs.Nodes.{Tree, node_at, box_by, boxes_from, links, boxes, box_of, changed}

-- ---- boxes are made one after another
pub boxes_from-append : (root : Range) (made : List Range) (ls ks : List (Option Link)) → boxes_from root made (ls ++ ks) ≡ boxes_from root (boxes_from root made ls) ks
boxes_from-append root made [] ks = refl
boxes_from-append root made (l ∷ ls) ks = boxes_from-append root (made ++ box_by root made l ∷ []) ls ks

-- what was made stands first
boxes_from-first : (root : Range) (made : List Range) (ls : List (Option Link)) → (more : List Range) × (boxes_from root made ls ≡ made ++ more) × (length more ≡ length ls)
boxes_from-first root made [] = ([], sym (append-nil made), refl)
boxes_from-first root made (l ∷ ls) =
    let p : (more : List Range) × (boxes_from root (made ++ box_by root made l ∷ []) ls ≡ (made ++ box_by root made l ∷ []) ++ more) × (length more ≡ length ls) =
    boxes_from-first root (made ++ box_by root made l ∷ []) ls
    in
    (box_by root made l ∷ p.0, p.1 ∙ append_assoc made (box_by root made l ∷ []) p.0, omega (arith, p.2))

pub length-boxes_from : (root : Range) (made : List Range) (ls : List (Option Link)) → length (boxes_from root made ls) ≡ length made + length ls
length-boxes_from root made ls =
    let p : (more : List Range) × (boxes_from root made ls ≡ made ++ more) × (length more ≡ length ls) = boxes_from-first root made ls in
    ap length p.1 ∙ length-append made p.0 ∙ omega (arith, p.2)

pub get_or-boxes_from : (root : Range) (made : List Range) (ls : List (Option Link)) (i : ℕ) (d : Range) → i < length made → get_or (boxes_from root made ls) i d ≡ get_or made i d
get_or-boxes_from root made ls i d h =
    let p : (more : List Range) × (boxes_from root made ls ≡ made ++ more) × (length more ≡ length ls) = boxes_from-first root made ls in
    ap (λ bs. get_or bs i d) p.1 ∙ get_or_append_left made p.0 d i h

-- the box of the i-th of these links, from the boxes before it
-- a box made later than its parent's is the parent's with one end changed
made_at : (root : Range) (made : List Range) (ls : List (Option Link)) (i : ℕ) (k : Link) → i < length ls → get_or ls i None ≡ Some k → k.parent < length made + i → get_or (boxes_from root made ls) (length made + i) root ≡ changed (get_or (boxes_from root made ls) k.parent root) k
made_at root made [] i k h is before = absurd (omega arith)
made_at root made (l ∷ ls) zero k h is before =
    let end : length made + zero < length (made ++ box_by root made l ∷ []) = omega (arith, length-append made (box_by root made l ∷ [])) in
    let here : length made + zero ≡ length made = omega arith in
    let parent : k.parent < length made = omega (arith, before) in
    get_or-boxes_from root (made ++ box_by root made l ∷ []) ls (length made + zero) root end
    ∙ ap (λ n. get_or (made ++ box_by root made l ∷ []) n root) here
    ∙ get_or_at made (box_by root made l) [] root (length made) refl
    ∙ ap (box_by root made) is
    ∙ ap (λ (b : Range). changed b k) (sym (get_or_append_left made (box_by root made l ∷ []) root k.parent parent))
    ∙ ap (λ (b : Range). changed b k) (sym (get_or-boxes_from root (made ++ box_by root made l ∷ []) ls k.parent root (omega (arith, length-append made (box_by root made l ∷ [])))))
made_at root made (l ∷ ls) (suc i) k h is before =
    let same : length made + suc i ≡ length (made ++ box_by root made l ∷ []) + i = omega (arith, length-append made (box_by root made l ∷ [])) in
    ap (λ n. get_or (boxes_from root (made ++ box_by root made l ∷ []) ls) n root) same
    ∙ made_at root (made ++ box_by root made l ∷ []) ls i k (omega arith) is (omega (arith, before, same))

first_made : (root : Range) (made : List Range) (ls : List (Option Link)) (i : ℕ) → i < length ls → get_or ls i None ≡ None → get_or (boxes_from root made ls) (length made + i) root ≡ root
first_made root made [] i h is = absurd (omega arith)
first_made root made (l ∷ ls) zero h is =
    let end : length made + zero < length (made ++ box_by root made l ∷ []) = omega (arith, length-append made (box_by root made l ∷ [])) in
    let here : length made + zero ≡ length made = omega arith in
    get_or-boxes_from root (made ++ box_by root made l ∷ []) ls (length made + zero) root end
    ∙ ap (λ n. get_or (made ++ box_by root made l ∷ []) n root) here
    ∙ get_or_at made (box_by root made l) [] root (length made) refl
    ∙ ap (box_by root made) is
first_made root made (l ∷ ls) (suc i) h is =
    let same : length made + suc i ≡ length (made ++ box_by root made l ∷ []) + i = omega (arith, length-append made (box_by root made l ∷ [])) in
    ap (λ n. get_or (boxes_from root (made ++ box_by root made l ∷ []) ls) n root) same
    ∙ first_made root (made ++ box_by root made l ∷ []) ls i (omega arith) is

-- ---- the box of a node
link_at : (nodes : List TreeNode) (i : ℕ) → i < length nodes → get_or (links nodes) i None ≡ (node_at nodes i).link
link_at nodes i h = get_or-map (λ (n : TreeNode). n.link) nodes i _ None h

pub box_of-child : (t : Tree) (i : ℕ) (k : Link) → i < length t.nodes → (node_at t.nodes i).link ≡ Some k → k.parent < i → box_of t i ≡ changed (box_of t k.parent) k
box_of-child t i k h is before =
    let e : 0 + i ≡ i = omega arith in
    ap (λ n. get_or (boxes t) n t.root) (sym e)
    ∙ made_at t.root [] (links t.nodes) i k (omega (arith, length-map t.nodes (λ (n : TreeNode). n.link))) (link_at t.nodes i h ∙ is) (omega (arith, before))

pub box_of-root : (t : Tree) (i : ℕ) → i < length t.nodes → (node_at t.nodes i).link ≡ None → box_of t i ≡ t.root
box_of-root t i h is =
    let e : 0 + i ≡ i = omega arith in
    ap (λ n. get_or (boxes t) n t.root) (sym e)
    ∙ first_made t.root [] (links t.nodes) i (omega (arith, length-map t.nodes (λ (n : TreeNode). n.link))) (link_at t.nodes i h ∙ is)
