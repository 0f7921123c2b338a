-- A text that is written line by line, and a tree that is written node by node.
use Rattle.std.proofs.Common.{◌≡◌, ℕ, zero, suc, ◌+◌, ◌-◌, ◌<◌, ◌≤◌, ◌==◌, not, cond, List, [], ◌∷◌, ◌++◌, length, map, reverse, filter, drop, take, get_or, ℤ, pos, unsigned_abs, All, codes, Result, Ok, Err, drop-cons, refl, sym, ap, ◌∙◌, subst, arith}
use Rattle.std.specs.List.{flat_map, join_with_byte, enumerate_from}
use Rattle.std.proofs.lemmas.List.Concat.{flat_map-append}
use Rattle.std.proofs.lemmas.List.{reverse-append}
use Rattle.std.proofs.lemmas.List.Elements.{All-push}
use mathlib.Core.List.{append-nil, append_assoc}
use Rattle.opt_tree.specs.declared.cert_node.CertNode.{CertNode}
use Rattle.opt_tree.specs.declared.cert_node.CertNode.TheVariants as node
use Rattle.opt_tree.specs.declared.node.Node.TheVariants.{Leaf, Split}
use Rattle.opt_tree.specs.Trees.{BoxTree, leaf, split, preorder}
use Rattle.opt_tree.specs.Nodes.{Tree, IsTree, IsLeaf, IsSplit, node_at, tree_at, grown}
use Rattle.opt_tree.specs.Certificates.{entries_of}
use Rattle.opt_tree.proofs.Grafts.{grafted, grafted-leaf, grafted-deep}
use Rattle.opt_bound.specs.Multipliers.{Multipliers}
use Rattle.opt_cert.specs.declared.cert_line.CertLine.{CertLine}
use Rattle.opt_cert.specs.Texts.{words_of, line_text, text_of_lines, node_line}
use Rattle.opt_cert.specs.Writing.{Adds, spaced, node_lines, nodes_at, nodes_left}

-- ---- lines
pub joined : (w : List ℕ) (ws : List (List ℕ)) → join_with_byte 32 (w ∷ ws) ≡ w ++ spaced ws
joined w [] = sym (append-nil w)
joined w (v ∷ vs) = ap (λ x. w ++ 32 ∷ x) (joined v vs)

-- the text of one line is its first word, the other words each after a space, and a line feed
pub one_line : (l : CertLine) (w : List ℕ) (ws : List (List ℕ)) → words_of l ≡ w ∷ ws → text_of_lines (l ∷ []) ≡ w ++ (spaced ws ++ 10 ∷ [])
one_line l w ws e =
    append-nil (line_text l ++ 10 ∷ [])
    ∙ ap (λ words. join_with_byte 32 words ++ 10 ∷ []) e
    ∙ ap (λ t. t ++ 10 ∷ []) (joined w ws)
    ∙ append_assoc w (spaced ws) (10 ∷ [])

pub lines_append : (ls ms : List CertLine) → text_of_lines (ls ++ ms) ≡ text_of_lines ls ++ text_of_lines ms
lines_append ls ms = flat_map-append (λ l. line_text l ++ 10 ∷ []) ls ms

-- a first line and the lines after it
pub lines_cons : (l : CertLine) (ls : List CertLine) → text_of_lines (l ∷ ls) ≡ text_of_lines (l ∷ []) ++ text_of_lines ls
lines_cons l ls = lines_append (l ∷ []) ls

-- ---- nodes
tree_at-deep : (t : Tree) (d e i : ℕ) → IsTree t → i < length t.nodes → length t.nodes ≤ i + 1 + d → length t.nodes ≤ i + 1 + e → tree_at d t.nodes i ≡ tree_at e t.nodes i
tree_at-deep t d e i tree inside deep deeper =
    sym (grafted-leaf t.nodes d i) ∙ grafted-deep t (λ _ m. leaf m) d e i tree inside deep deeper ∙ grafted-leaf t.nodes e i

some_deep : (t : Tree) → IsTree t → length t.nodes ≡ suc (length t.nodes - 1)
some_deep t tree = omega (arith, tree.has_root)

-- what stands at node i, by what is one node deeper
nodes_here : (t : Tree) (i : ℕ) → IsTree t → nodes_at t i ≡ preorder (grown (node_at t.nodes i).node (node_at t.nodes i).mult (tree_at (length t.nodes - 1) t.nodes))
nodes_here t i tree = ap (λ d. preorder (tree_at d t.nodes i)) (some_deep t tree)

pub nodes_at-leaf : (t : Tree) (i : ℕ) → IsTree t → (node_at t.nodes i).node ≡ Leaf → nodes_at t i ≡ node.Leaf (node_at t.nodes i).mult ∷ []
nodes_at-leaf t i tree is =
    nodes_here t i tree
    ∙ ap (λ n. preorder (grown n (node_at t.nodes i).mult (tree_at (length t.nodes - 1) t.nodes))) is

pub nodes_at-split : (t : Tree) (i j : ℕ) (c : ℤ) (l r : ℕ) → IsTree t → i < length t.nodes → (node_at t.nodes i).node ≡ Split j c l r → nodes_at t i ≡ node.Split j c ∷ nodes_at t l ++ nodes_at t r
nodes_at-split t i j c l r tree inside is =
    let s : IsSplit t i j c l r = tree.splits i j c l r inside is in
    let d : ℕ = length t.nodes - 1 in
    let left : tree_at d t.nodes l ≡ tree_at (length t.nodes) t.nodes l =
    tree_at-deep t d (length t.nodes) l tree s.left_in_tree (omega (arith, s.left_later)) (omega arith) in
    let right : tree_at d t.nodes r ≡ tree_at (length t.nodes) t.nodes r =
    tree_at-deep t d (length t.nodes) r tree s.right_in_tree (omega (arith, s.right_later)) (omega arith) in
    nodes_here t i tree
    ∙ ap (λ n. preorder (grown n (node_at t.nodes i).mult (tree_at d t.nodes))) is
    ∙ ap (λ (u : BoxTree). node.Split j c ∷ preorder u ++ preorder (tree_at d t.nodes r)) left
    ∙ ap (λ (u : BoxTree). node.Split j c ∷ nodes_at t l ++ preorder u) right

pub nodes_left-more : (t : Tree) (waiting : List ℕ) (i : ℕ) → nodes_left t (waiting ++ i ∷ []) ≡ nodes_at t i ++ nodes_left t waiting
nodes_left-more t waiting i = ap (flat_map (nodes_at t)) (reverse-append waiting (i ∷ []))

pub node_lines-append : (ns ms : List CertNode) → node_lines (ns ++ ms) ≡ node_lines ns ++ node_lines ms
node_lines-append [] ms = refl
node_lines-append (n ∷ ns) ms =
    ap (λ t. (line_text (node_line n) ++ 10 ∷ []) ++ t) (node_lines-append ns ms)
    ∙ sym (append_assoc (line_text (node_line n) ++ 10 ∷ []) (node_lines ns) (node_lines ms))

-- a node is written, and then those that are left
pub record IsStep (t : Tree) (text new_text : List ℕ) (waiting new_waiting : List ℕ) (i : ℕ) : Type 0 where
  pub whole : new_text ++ node_lines (nodes_left t new_waiting) ≡ text ++ node_lines (nodes_left t (waiting ++ i ∷ []))
  pub fewer : length (nodes_left t new_waiting) < length (nodes_left t (waiting ++ i ∷ []))

step_by : (t : Tree) (text new_text waiting new_waiting : List ℕ) (i : ℕ) (n : CertNode) → new_text ≡ text ++ node_lines (n ∷ []) → nodes_left t (waiting ++ i ∷ []) ≡ n ∷ nodes_left t new_waiting → IsStep t text new_text waiting new_waiting i
step_by t text new_text waiting new_waiting i n added next = record {
  whole =
      ap (λ x. x ++ node_lines (nodes_left t new_waiting)) added
      ∙ append_assoc text (node_lines (n ∷ [])) (node_lines (nodes_left t new_waiting))
      ∙ ap (λ x. text ++ x) (sym (node_lines-append (n ∷ []) (nodes_left t new_waiting)))
      ∙ ap (λ ns. text ++ node_lines ns) (sym next);
  fewer = omega (arith, ap length next);
}

pub leaf_step : (t : Tree) (text new_text waiting : List ℕ) (i : ℕ) → IsTree t → (node_at t.nodes i).node ≡ Leaf → new_text ≡ text ++ node_lines (node.Leaf (node_at t.nodes i).mult ∷ []) → IsStep t text new_text waiting waiting i
leaf_step t text new_text waiting i tree is added =
    step_by t text new_text waiting waiting i (node.Leaf (node_at t.nodes i).mult) added
    (nodes_left-more t waiting i ∙ ap (λ ns. ns ++ nodes_left t waiting) (nodes_at-leaf t i tree is))

pub split_step : (t : Tree) (text new_text waiting : List ℕ) (i j : ℕ) (c : ℤ) (l r : ℕ) → IsTree t → i < length t.nodes → (node_at t.nodes i).node ≡ Split j c l r → new_text ≡ text ++ node_lines (node.Split j c ∷ []) → IsStep t text new_text waiting ((waiting ++ r ∷ []) ++ l ∷ []) i
split_step t text new_text waiting i j c l r tree inside is added =
    step_by t text new_text waiting ((waiting ++ r ∷ []) ++ l ∷ []) i (node.Split j c) added
    (nodes_left-more t waiting i
    ∙ ap (λ ns. ns ++ nodes_left t waiting) (nodes_at-split t i j c l r tree inside is)
    ∙ ap (λ ns. node.Split j c ∷ ns) (
    append_assoc (nodes_at t l) (nodes_at t r) (nodes_left t waiting)
    ∙ ap (λ ns. nodes_at t l ++ ns) (sym (nodes_left-more t waiting r))
    ∙ sym (nodes_left-more t (waiting ++ r ∷ []) l)))

-- ---- the values of a point that are not 0
-- the entries of the values from i on
abbrev pub entries_on : List ℤ → ℕ → List (ℕ × ℤ)
entries_on x i = filter (λ e. not (unsigned_abs e.1 == 0)) (enumerate_from i (drop i x))

pub entries_on-step : (x : List ℤ) (i : ℕ) → i < length x → entries_on x i ≡ cond (not (unsigned_abs (get_or x i (pos 0)) == 0)) ((i, get_or x i (pos 0)) ∷ entries_on x (i + 1)) (entries_on x (i + 1))
entries_on-step x i inside =
    let more : i + 1 ≡ suc i = omega arith in
    ap (λ vs. filter (λ (e : ℕ × ℤ). not (unsigned_abs e.1 == 0)) (enumerate_from i vs)) (drop-cons x i (pos 0) inside)
    ∙ ap (λ k. cond (not (unsigned_abs (get_or x i (pos 0)) == 0)) ((i, get_or x i (pos 0)) ∷ filter (λ (e : ℕ × ℤ). not (unsigned_abs e.1 == 0)) (enumerate_from (i + 1) (drop k x))) (filter (λ (e : ℕ × ℤ). not (unsigned_abs e.1 == 0)) (enumerate_from (i + 1) (drop k x)))) (sym more)

-- ---- what the code adds
-- a first word, the other words each after a space, and a line feed
pub adds_line : {A E : Type 0} (r : Result A E) (old first all new : List ℕ) (w : List ℕ) (ws : List (List ℕ)) (l : CertLine) → words_of l ≡ w ∷ ws → first ≡ old ++ w → all ≡ first ++ spaced ws → Adds r all (10 ∷ []) new → Adds r old (text_of_lines (l ∷ [])) new
adds_line (Err e) old first all new w ws l is p q h = tt
adds_line (Ok a) old first all new w ws l is p q h =
    h
    ∙ ap (λ x. x ++ 10 ∷ []) (q ∙ ap (λ x. x ++ spaced ws) p)
    ∙ ap (λ x. x ++ 10 ∷ []) (append_assoc old w (spaced ws))
    ∙ append_assoc old (w ++ spaced ws) (10 ∷ [])
    ∙ ap (λ x. old ++ x) (append_assoc w (spaced ws) (10 ∷ []))
    ∙ ap (λ x. old ++ x) (sym (one_line l w ws is))

pub two_more : (P : ℕ → Type 0) (xs new : List ℕ) (r l : ℕ) → All P xs → P r → P l → new ≡ (xs ++ r ∷ []) ++ l ∷ [] → All P new
two_more P xs new r l all right left e = subst (All P) (sym e) (All-push P (xs ++ r ∷ []) l (All-push P xs r all right) left)
