-- A reader that passes a node, and the trees that the nodes so far begin.
use Rattle.std.proofs.Common.{◌≡◌, ℕ, zero, suc, ◌+◌, ◌-◌, ◌^◌, ◌<◌, ◌≤◌, List, [], ◌∷◌, ◌++◌, ◌⊎◌, ⊎_elim, map, length, Option, Some, None, is_some, Result, Ok, Err, IfOk, ℤ, refl, sym, ap, ◌∙◌, subst, arith}
use mathlib.Core.List.{append_assoc, append-nil}
use Rattle.std.specs.List.{flat_map}
use Rattle.std.proofs.lemmas.List.{length-append, map-append}
use Rattle.opt_base.specs.Answers.{◌>>=◌}
use Rattle.opt_base.specs.declared.verdict.Verdict.{Verdict}
use Rattle.opt_bound.specs.Multipliers.{Multipliers}
use Rattle.opt_tree.specs.declared.cert_node.CertNode.{CertNode}
use Rattle.opt_tree.specs.declared.cert_node.CertNode.TheVariants as node
use Rattle.opt_tree.specs.Trees.{BoxTree, leaf, split, preorder}
use Rattle.opt_tree.specs.Certificates.{AreWritable, IsWritableCut, HasNodes, HasRanges, HasEntries, named_value}
use Rattle.opt_cert.specs.declared.cert_fault.CertFault.{CertFault}
use Rattle.opt_cert.specs.declared.cert_fault.CertFault.TheVariants as fault
use Rattle.opt_cert.specs.declared.cert_line.CertLine.{CertLine}
use Rattle.opt_cert.specs.declared.cert_line.CertLine.TheVariants as line
use Rattle.opt_cert.specs.declared.place.Place.{Place}
use Rattle.opt_cert.specs.declared.place.Place.TheVariants as place
use Rattle.opt_cert.specs.Forests.{tree_of_nodes, AreTreeNodes, AreNodesOf, certificate_of_nodes}
use Rattle.opt_cert.specs.Codes.{tree_of_nodes-preorder}
use Rattle.opt_cert.specs.Reading.{Reader, Tells, Fails, next_line, next_of, lines_from, lines_left, onto, place_after, reader_after, rest_of}
use Rattle.opt_cert.specs.Stands.{Stands, StandsInTree, IsSplit, IsLeaf}
use Rattle.opt_cert.specs.Steps.{PassedNode, PassedEnd, PassesNode, IsWritableNode, trees_past}
use Rattle.opt_cert.specs.Texts.{node_line, lines_of}

-- ---- one line
lines_step : (p : Place) (passed : ℕ) (ps : List (List ℕ)) (l : CertLine) → next_of p (passed + 1) ps ≡ Ok l → lines_from p passed ps ≡ onto l (lines_from (place_after p l) (passed + 1) (rest_of ps))
lines_step p passed [] l h = cc
lines_step p passed (text ∷ rest) l h = ap (λ r. r >>= λ x. onto x (lines_from (place_after p x) (passed + 1) rest)) h

shorter_step : (p : Place) (n : ℕ) (ps : List (List ℕ)) (l : CertLine) → next_of p n ps ≡ Ok l → length (rest_of ps) < length ps
shorter_step p n [] l h = cc
shorter_step p n (text ∷ rest) l h = omega arith

split_in_tree : (trees j : ℕ) (t : ℤ) → StandsInTree trees (line.Split j t) → (k : ℕ) × (trees ≡ suc k) × IsWritableCut j t
split_in_tree zero j t h = cc
split_in_tree (suc k) j t h = (k, refl, ⊎_elim (λ s. own s.quantity s.cut s.is s.writable) (λ l. other l.mult l.is) h)
  where
    own : (q : ℕ) (c : ℤ) → line.Split j t ≡ line.Split q c → IsWritableCut q c → IsWritableCut j t
    own q c e w =
        let a : j ≡ q = cc in
        let b : t ≡ c = cc in
        let P : ℕ → Type 0 = λ x. IsWritableCut x t in
        let Q : ℤ → Type 0 = λ x. IsWritableCut q x in
        subst P (sym a) (subst Q (sym b) w)

    other : (m : Multipliers) → line.Split j t ≡ line.Leaf m → IsWritableCut j t
    other m e = cc

leaf_in_tree : (trees : ℕ) (m : Multipliers) → StandsInTree trees (line.Leaf m) → (k : ℕ) × (trees ≡ suc k) × AreWritable m
leaf_in_tree zero m h = cc
leaf_in_tree (suc k) m h = (k, refl, ⊎_elim (λ s. other s.quantity s.cut s.is) (λ l. own l.mult l.is l.writable) h)
  where
    own : (x : Multipliers) → line.Leaf m ≡ line.Leaf x → AreWritable x → AreWritable m
    own x e w = let a : m ≡ x = cc in subst AreWritable (sym a) w

    other : (q : ℕ) (c : ℤ) → line.Leaf m ≡ line.Split q c → AreWritable m
    other q c e = cc

pub passed_split : (old new : Reader) (trees j : ℕ) (t : ℤ) → old.place ≡ place.Nodes trees → next_line old ≡ Ok (line.Split j t) → new ≡ reader_after old (line.Split j t) → Stands old.place (line.Split j t) → new.passed < 2 ^ 32 → PassedNode (node.Split j t) old new
passed_split old new trees j t at read after stands few =
    let P : Place → Type 0 = λ p. Stands p (line.Split j t) in
    let s = split_in_tree trees j t (subst P at stands) in
    record {
      lines = lines_step old.place old.passed old.pieces (line.Split j t) read ∙ ap (λ r. onto (line.Split j t) (lines_left r)) (sym after);
      writable = s.2;
      trees = s.0;
      old_place = at ∙ ap place.Nodes s.1;
      new_place = ap (λ r. r.place) after ∙ ap (λ p. place_after p (line.Split j t)) (at ∙ ap place.Nodes s.1);
      passed = ap (λ r. r.passed) after;
      few = few;
      shorter = subst (λ r. length r.pieces < length old.pieces) (sym after) (shorter_step old.place (old.passed + 1) old.pieces (line.Split j t) read);
    }

pub passed_leaf : (old new : Reader) (trees : ℕ) (m : Multipliers) → old.place ≡ place.Nodes trees → next_line old ≡ Ok (line.Leaf m) → new ≡ reader_after old (line.Leaf m) → Stands old.place (line.Leaf m) → new.passed < 2 ^ 32 → PassedNode (node.Leaf m) old new
passed_leaf old new trees m at read after stands few =
    let P : Place → Type 0 = λ p. Stands p (line.Leaf m) in
    let s = leaf_in_tree trees m (subst P at stands) in
    record {
      lines = lines_step old.place old.passed old.pieces (line.Leaf m) read ∙ ap (λ r. onto (line.Leaf m) (lines_left r)) (sym after);
      writable = s.2;
      trees = s.0;
      old_place = at ∙ ap place.Nodes s.1;
      new_place = ap (λ r. r.place) after ∙ ap (λ p. place_after p (line.Leaf m)) (at ∙ ap place.Nodes s.1);
      passed = ap (λ r. r.passed) after;
      few = few;
      shorter = subst (λ r. length r.pieces < length old.pieces) (sym after) (shorter_step old.place (old.passed + 1) old.pieces (line.Leaf m) read);
    }

-- ---- the trees
abbrev pub Nodes : Type 0
Nodes = List CertNode

abbrev pub AllTrees : List BoxTree → Type 0
AllTrees [] = Unit {0}
AllTrees (t ∷ ts) = HasNodes t × AllTrees ts

-- one tree in range whose nodes these are in order
pub record IsOneTree (nodes : List CertNode) : Type 0 where
  pub tree : BoxTree
  pub in_order : nodes ≡ preorder tree
  pub in_range : HasNodes tree

-- with so many trees more, the nodes are those of one tree
abbrev pub Begins : ℕ → List CertNode → Type 0
Begins k nodes = (ts : List BoxTree) → length ts ≡ k → AllTrees ts → IsOneTree (nodes ++ flat_map preorder ts)

pub begins_none : Begins 1 []
begins_none [] e all = absurd (omega arith)
begins_none (t ∷ []) e all = record { tree = t; in_order = append-nil (preorder t); in_range = all.0 }
begins_none (t ∷ u ∷ ts) e all = absurd (omega arith)

one_along : (a b : List CertNode) → a ≡ b → IsOneTree a → IsOneTree b
one_along a b e h = record { tree = h.tree; in_order = sym e ∙ h.in_order; in_range = h.in_range }

pub begins_leaf : (k : ℕ) (nodes : List CertNode) (m : Multipliers) → AreWritable m → Begins (suc k) nodes → Begins k (nodes ++ node.Leaf m ∷ [])
begins_leaf k nodes m w h ts e all =
    one_along (nodes ++ flat_map preorder (leaf m ∷ ts)) ((nodes ++ node.Leaf m ∷ []) ++ flat_map preorder ts)
    (sym (append_assoc nodes (node.Leaf m ∷ []) (flat_map preorder ts)))
    (h (leaf m ∷ ts) (ap suc e) (w, all))

pub begins_split : (k : ℕ) (nodes : List CertNode) (j : ℕ) (t : ℤ) → IsWritableCut j t → Begins (suc k) nodes → Begins (suc k + 1) (nodes ++ node.Split j t ∷ [])
begins_split k nodes j t w h [] e all = absurd (omega arith)
begins_split k nodes j t w h (a ∷ []) e all = absurd (omega arith)
begins_split k nodes j t w h (a ∷ b ∷ ts) e all =
    one_along (nodes ++ flat_map preorder (split j t a b ∷ ts)) ((nodes ++ node.Split j t ∷ []) ++ flat_map preorder (a ∷ b ∷ ts))
    (ap (λ ns. nodes ++ node.Split j t ∷ ns) (append_assoc (preorder a) (preorder b) (flat_map preorder ts))
    ∙ sym (append_assoc nodes (node.Split j t ∷ []) (flat_map preorder (a ∷ b ∷ ts))))
    (h (split j t a b ∷ ts) (omega (arith, e)) ((w, all.0, all.1.0), all.1.1))

pub begins_more : (k : ℕ) (nodes : List CertNode) (n : CertNode) → IsWritableNode n → Begins (suc k) nodes → Begins (trees_past (suc k) n) (nodes ++ n ∷ [])
begins_more k nodes (node.Split j t) w h = begins_split k nodes j t w h
begins_more k nodes (node.Leaf m) w h =
    let e : suc k - 1 ≡ k = omega arith in
    subst (λ x. Begins x (nodes ++ node.Leaf m ∷ [])) (sym e) (begins_leaf k nodes m w h)

pub begins_end : (nodes : List CertNode) → length nodes < 2 ^ 32 → Begins 0 nodes → AreTreeNodes nodes
begins_end nodes few h =
    let one = h [] refl tt in
    let order : nodes ≡ preorder one.tree = sym (append-nil nodes) ∙ one.in_order in
    let back : one.tree ≡ tree_of_nodes nodes = sym (tree_of_nodes-preorder one.tree) ∙ ap tree_of_nodes (sym order) in
    record {
      in_order = order ∙ ap preorder back;
      in_range = subst HasNodes back one.in_range;
      few = few;
    }

-- ---- all nodes
-- the lines so far, before those that are left
abbrev pub after_nodes : List CertNode → Result (List CertLine) CertFault → Result (List CertLine) CertFault
after_nodes nodes rest = rest >>= λ lines. Ok (map node_line nodes ++ lines)

-- nodes were read from a reader, which now stands where so many trees are still to come
pub record IsReading (start now : Reader) (nodes : List CertNode) : Type 0 where
  pub lines : lines_left start ≡ after_nodes nodes (lines_left now)
  pub trees : ℕ
  pub at : now.place ≡ place.Nodes trees
  pub begins : Begins trees nodes
  pub few : length nodes ≤ now.passed
  pub passed : length nodes < 2 ^ 32

nothing_read : (r : Result (List CertLine) CertFault) → r ≡ after_nodes [] r
nothing_read (Ok lines) = refl
nothing_read (Err f) = refl

pub reading_start : (start : Reader) → start.place ≡ place.Nodes 1 → IsReading start start []
reading_start start at = record {
  lines = nothing_read (lines_left start);
  trees = 1;
  at = at;
  begins = begins_none;
  few = omega arith;
  passed = omega arith;
}

one_more : (nodes : List CertNode) (n : CertNode) (r : Result (List CertLine) CertFault) → after_nodes nodes (r >>= λ lines. Ok (node_line n ∷ lines)) ≡ after_nodes (nodes ++ n ∷ []) r
one_more nodes n (Ok lines) = ap Ok (sym (append_assoc (map node_line nodes) (node_line n ∷ []) lines) ∙ ap (λ xs. xs ++ lines) (sym (map-append node_line nodes (n ∷ []))))
one_more nodes n (Err f) = refl

onto_node : (n : CertNode) (r : Result (List CertLine) CertFault) → onto (node_line n) r ≡ (r >>= λ lines. Ok (node_line n ∷ lines))
onto_node (node.Split j t) r = refl
onto_node (node.Leaf m) r = refl

pub reading_step : (start now next : Reader) (nodes more : List CertNode) (n : CertNode) → IsReading start now nodes → PassedNode n now next → more ≡ nodes ++ n ∷ [] → IsReading start next more
reading_step start now next nodes more n h p e =
    let same : place.Nodes h.trees ≡ place.Nodes (suc p.trees) = sym h.at ∙ p.old_place in
    let trees : h.trees ≡ suc p.trees = cc in
    let longer : length more ≡ length nodes + 1 = ap length e ∙ length-append nodes (n ∷ []) in
    record {
      lines = h.lines ∙ ap (after_nodes nodes) (p.lines ∙ onto_node n (lines_left next)) ∙ one_more nodes n (lines_left next) ∙ ap (λ ns. after_nodes ns (lines_left next)) (sym e);
      trees = trees_past (suc p.trees) n;
      at = p.new_place;
      begins = subst (λ ns. Begins (trees_past (suc p.trees) n) ns) (sym e) (begins_more p.trees nodes n p.writable (subst (λ k. Begins k nodes) trees h.begins));
      few = omega (arith, longer, h.few, p.passed);
      passed = omega (arith, longer, h.few, p.passed, p.few);
    }

pub reading_end : (start now : Reader) (nodes : List CertNode) → IsReading start now nodes → PassedEnd now → (lines_left start ≡ Ok (map node_line nodes ++ line.End ∷ [])) × AreTreeNodes nodes
reading_end start now nodes h p =
    let same : place.Nodes h.trees ≡ place.Nodes 0 = sym h.at ∙ p.place in
    let trees : h.trees ≡ 0 = cc in
    (h.lines ∙ ap (after_nodes nodes) p.lines, begins_end nodes h.passed (subst (λ k. Begins k nodes) trees h.begins))

stopped_at : (start now : Reader) (nodes : List CertNode) (f : CertFault) → IsReading start now nodes → lines_left now ≡ Err f → lines_left start ≡ Err f
stopped_at start now nodes f h e = h.lines ∙ ap (after_nodes nodes) e

pub reading_fails : (start now : Reader) (nodes : List CertNode) (f : CertFault) → IsReading start now nodes → Fails f (lines_left now) → Fails f (lines_left start)
reading_fails start now nodes (fault.BadLine n) h e = stopped_at start now nodes (fault.BadLine n) h e
reading_fails start now nodes (fault.Range n) h e = stopped_at start now nodes (fault.Range n) h e
reading_fails start now nodes (fault.Order n) h e = stopped_at start now nodes (fault.Order n) h e
reading_fails start now nodes fault.Truncated h e = stopped_at start now nodes fault.Truncated h e
reading_fails start now nodes fault.Trailing h e = stopped_at start now nodes fault.Trailing h e
reading_fails start now nodes fault.OutOfMemory h e = tt

pub ended : (o : Option CertNode) (now next : Reader) → ((n : CertNode) → o ≡ Some n → ⊥) → PassesNode (Ok o) now next → PassedEnd now
ended None now next none h = h
ended (Some n) now next none h = absurd (none n refl)

-- ---- the whole text
pub whole_lines : (a b c d e : Reader) (v : Verdict) (m : Multipliers) (p : Option (List (ℕ × ℤ))) (nodes : List CertNode) → lines_left a ≡ onto line.Header (lines_left b) → lines_left b ≡ onto (line.Verdict v) (lines_left c) → lines_left c ≡ onto (line.Root m) (lines_left d) → lines_left d ≡ onto (line.Point p) (lines_left e) → lines_left e ≡ Ok (map node_line nodes ++ line.End ∷ []) → AreTreeNodes nodes → lines_left a ≡ Ok (lines_of (certificate_of_nodes v m p nodes))
whole_lines a b c d e v m p nodes ab bc cd de end tree =
    ab ∙ ap (onto line.Header) (bc ∙ ap (onto (line.Verdict v)) (cd ∙ ap (onto (line.Root m)) (de ∙ ap (onto (line.Point p)) end)))
    ∙ ap (λ ns. Ok (line.Header ∷ line.Verdict v ∷ line.Root m ∷ line.Point p ∷ map node_line ns ++ line.End ∷ [])) tree.in_order

pub whole_certificate : (v : Verdict) (m : Multipliers) (p : Option (List (ℕ × ℤ))) (nodes : List CertNode) → HasRanges v → AreWritable m → HasEntries p → is_some p ≡ is_some (named_value v) → AreTreeNodes nodes → AreNodesOf (certificate_of_nodes v m p nodes) nodes
whole_certificate v m p nodes ranges root point named tree = record {
  certificate = record { verdict = ranges; root = root; point = point; tree = tree.in_range; point_where_named = named };
  in_order = tree.in_order;
  few = tree.few;
}
