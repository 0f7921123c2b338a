-- The text of a certificate is read as it, and nothing else is; of what is read there is a certificate.
use Rattle.std.proofs.Common.{◌≡◌, ◌≢◌, ℕ, zero, suc, ◌+◌, ◌-◌, ◌==◌, Bool, true, false, ◌&&◌, not, cond, List, [], ◌∷◌, ◌++◌, map, length, ◌⊎◌, ⊎_elim, inl, inr, Option, Some, None, is_some, IfOk, Result, Ok, Err, ℤ, refl, sym, ap, ◌∙◌, subst, arith}
use mathlib.Core.List.{append_assoc, append-nil}
use Rattle.std.specs.List.{flat_map, join_with_byte}
use Rattle.std.proofs.lemmas.Bool.Decides.{nat_tests}
use Rattle.std.proofs.lemmas.List.{map-append}
use Rattle.opt_base.specs.declared.verdict.Verdict.{Verdict}
use Rattle.opt_base.specs.declared.verdict.Verdict.TheVariants as verdict
use Rattle.opt_bound.specs.Bound.{trivial_multipliers}
use Rattle.opt_bound.specs.Multipliers.{Multipliers}
use Rattle.opt_tree.specs.declared.cert_node.CertNode.{CertNode}
use Rattle.opt_tree.specs.declared.cert_node.CertNode.TheVariants as node
use Rattle.opt_tree.specs.Trees.{BoxTree, leaf, split, preorder}
use Rattle.opt_tree.specs.Certificates.{Certificate, IsCertificate, HasNodes, HasRanges, AreWritable, HasEntries, IsWritableCut, named_value}
use Rattle.opt_cert.specs.declared.cert_fault.CertFault.{CertFault}
use Rattle.opt_cert.specs.declared.cert_fault.CertFault.TheVariants.{BadLine, Range, Order, Truncated, Trailing, OutOfMemory}
use Rattle.opt_cert.specs.declared.cert_line.CertLine.{CertLine}
use Rattle.opt_cert.specs.declared.cert_line.CertLine.TheVariants as line
use Rattle.opt_cert.specs.declared.place.Place.{Place}
use Rattle.opt_cert.specs.declared.place.Place.TheVariants as place
use Rattle.opt_cert.specs.Codes.{tree_of_nodes-preorder}
use Rattle.opt_cert.specs.Forests.{certificate_of_nodes}
use Rattle.opt_cert.specs.Numbers.{pieces}
use Rattle.opt_cert.specs.Reading.{is_last, has_bytes, has_point_after, place_after, text_lines, Fails, Tells}
use Rattle.opt_cert.specs.Stands.{IsVerdict, IsRoot, IsPoint, IsSplit, IsLeaf, StandsInTree, Stands}
use Rattle.opt_cert.specs.Texts.{node_line, lines_of, text_of_lines, certificate_text}
use Rattle.opt_cert.specs.Wholes.{IsTextOf, IsFrontOf, IsLongerThan, IsOwnText, IsAnswer, IsRefusal}
use Rattle.opt_cert.proofs.ReadLemmas.{has_bytes_rest}
use Rattle.opt_cert.proofs.StepLemmas.{AllTrees}
use Rattle.opt_cert.proofs.WordLemmas.{join-pieces}
use Rattle.opt_cert.proofs.TextBack.{Follows, follows_more, lines_again, pieces_back, front_again}

-- ---- the lines of a certificate may follow one another
leaf_follows : (k : ℕ) (m : Multipliers) (rest : List CertLine) → AreWritable m → Follows (place.Nodes k) rest → Follows (place.Nodes (suc k)) (line.Leaf m ∷ rest)
leaf_follows k m rest writable h =
    let fewer : k ≡ suc k - 1 = omega arith in
    follows_more (place.Nodes (suc k)) (line.Leaf m) rest (inr (record { mult = m; is = refl; writable = writable })) refl
    (subst (λ n. Follows (place.Nodes n) rest) fewer h)

split_follows : (k j : ℕ) (t : ℤ) (rest : List CertLine) → IsWritableCut j t → Follows (place.Nodes (suc (suc k))) rest → Follows (place.Nodes (suc k)) (line.Split j t ∷ rest)
split_follows k j t rest writable h =
    let more : suc (suc k) ≡ suc k + 1 = omega arith in
    follows_more (place.Nodes (suc k)) (line.Split j t) rest (inl (record { quantity = j; cut = t; is = refl; writable = writable })) refl
    (subst (λ n. Follows (place.Nodes n) rest) more h)

tree_follows : (t : BoxTree) → HasNodes t → (k : ℕ) (rest : List CertLine) → Follows (place.Nodes k) rest → Follows (place.Nodes (suc k)) (map node_line (preorder t) ++ rest)
tree_follows (leaf m) h k rest follows = leaf_follows k m rest h follows
tree_follows (split j t left right) h k rest follows =
    let parted : map node_line (preorder left) ++ (map node_line (preorder right) ++ rest) ≡ map node_line (preorder left ++ preorder right) ++ rest =
    sym (append_assoc (map node_line (preorder left)) (map node_line (preorder right)) rest)
    ∙ ap (λ xs. xs ++ rest) (sym (map-append node_line (preorder left) (preorder right)))
    in
    split_follows k j t (map node_line (preorder left ++ preorder right) ++ rest) h.0
    (subst (Follows (place.Nodes (suc (suc k)))) parted
    (tree_follows left h.1 (suc k) (map node_line (preorder right) ++ rest) (tree_follows right h.2 k rest follows)))

pub lines_follow : (c : Certificate) → IsCertificate c → Follows place.Header (lines_of c)
lines_follow c h =
    let tree : Follows (place.Nodes 1) (map node_line (preorder c.tree) ++ line.End ∷ []) = tree_follows c.tree h.tree 0 (line.End ∷ []) (refl, refl) in
    let point : Follows (place.Point (is_some (named_value c.verdict))) (line.Point c.point ∷ map node_line (preorder c.tree) ++ line.End ∷ []) =
    follows_more (place.Point (is_some (named_value c.verdict))) (line.Point c.point) (map node_line (preorder c.tree) ++ line.End ∷ [])
    (record { point = c.point; is = refl; entries = h.point; where_named = h.point_where_named }) refl tree
    in
    (refl, refl, (record { verdict = c.verdict; is = refl; ranges = h.verdict }, refl, (record { root = c.root; is = refl; writable = h.root }, refl, point)))

-- ---- a certificate is got back from its lines
abbrev nodes_in : List CertLine → List CertNode
nodes_in [] = []
nodes_in (line.Split j t ∷ ls) = node.Split j t ∷ nodes_in ls
nodes_in (line.Leaf m ∷ ls) = node.Leaf m ∷ nodes_in ls
nodes_in (line.Header ∷ ls) = nodes_in ls
nodes_in (line.Verdict v ∷ ls) = nodes_in ls
nodes_in (line.Root m ∷ ls) = nodes_in ls
nodes_in (line.Point point ∷ ls) = nodes_in ls
nodes_in (line.End ∷ ls) = nodes_in ls

abbrev verdict_in : List CertLine → Verdict
verdict_in (line.Header ∷ line.Verdict v ∷ ls) = v
verdict_in other = verdict.NoPlan

abbrev root_in : List CertLine → Multipliers
root_in (l ∷ v ∷ line.Root m ∷ ls) = m
root_in other = trivial_multipliers

abbrev point_in : List CertLine → Option (List (ℕ × ℤ))
point_in (l ∷ v ∷ m ∷ line.Point point ∷ ls) = point
point_in other = None

abbrev certificate_in : List CertLine → Certificate
certificate_in ls = certificate_of_nodes (verdict_in ls) (root_in ls) (point_in ls) (nodes_in ls)

nodes_back : (nodes : List CertNode) → nodes_in (map node_line nodes ++ line.End ∷ []) ≡ nodes
nodes_back [] = refl
nodes_back (node.Split j t ∷ nodes) = ap (λ ns. node.Split j t ∷ ns) (nodes_back nodes)
nodes_back (node.Leaf m ∷ nodes) = ap (λ ns. node.Leaf m ∷ ns) (nodes_back nodes)

certificate_back : (c : Certificate) → certificate_in (lines_of c) ≡ c
certificate_back c =
    ap (certificate_of_nodes c.verdict c.root c.point) (nodes_back (preorder c.tree))
    ∙ ap (λ (t : BoxTree). record { verdict = c.verdict; root = c.root; point = c.point; tree = t }) (tree_of_nodes-preorder c.tree)

-- equal lines are those of equal certificates
pub same_certificate : (c d : Certificate) → lines_of c ≡ lines_of d → c ≡ d
same_certificate c d h = sym (certificate_back c) ∙ ap certificate_in h ∙ certificate_back d

-- ---- lines that follow one another are those of a certificate
record AreTrees (k : ℕ) (ls : List CertLine) : Type 0 where
  trees : List BoxTree
  count : length trees ≡ k
  in_range : AllTrees trees
  lines : ls ≡ map node_line (flat_map preorder trees) ++ line.End ∷ []

with_leaf : (k : ℕ) (m : Multipliers) (ls : List CertLine) → AreWritable m → AreTrees k ls → AreTrees (suc k) (line.Leaf m ∷ ls)
with_leaf k m ls writable h = record {
  trees = leaf m ∷ h.trees;
  count = ap suc h.count;
  in_range = (writable, h.in_range);
  lines = ap (λ xs. line.Leaf m ∷ xs) h.lines;
}

with_split : (k j : ℕ) (t : ℤ) (ls : List CertLine) → IsWritableCut j t → AreTrees (suc (suc k)) ls → AreTrees (suc k) (line.Split j t ∷ ls)
with_split k j t ls writable h = joined h.trees h.count h.in_range h.lines
  where
    joined : (trees : List BoxTree) → length trees ≡ suc (suc k) → AllTrees trees → ls ≡ map node_line (flat_map preorder trees) ++ line.End ∷ [] → AreTrees (suc k) (line.Split j t ∷ ls)
    joined [] count all lines = absurd (omega (arith, count))
    joined (a ∷ []) count all lines = absurd (omega (arith, count))
    joined (a ∷ b ∷ trees) count all lines = record {
      trees = split j t a b ∷ trees;
      count = omega (arith, count);
      in_range = ((writable, all.0, all.1.0), all.1.1);
      lines =
          ap (λ xs. line.Split j t ∷ xs) lines
          ∙ ap (λ ns. line.Split j t ∷ map node_line ns ++ line.End ∷ []) (sym (append_assoc (preorder a) (preorder b) (flat_map preorder trees)));
    }

trees_in : (ls : List CertLine) (k : ℕ) → Follows (place.Nodes k) ls → AreTrees k ls
trees_in [] k h = absurd h
trees_in (l ∷ []) zero h = record { trees = []; count = refl; in_range = tt; lines = ap (λ x. x ∷ []) h.1 }
trees_in (l ∷ []) (suc k) h =
    ⊎_elim
    (λ s. let both_are : line.Split s.quantity s.cut ≡ line.End = sym s.is ∙ h.1 in cc)
    (λ s. let both_are : line.Leaf s.mult ≡ line.End = sym s.is ∙ h.1 in cc)
    h.0
trees_in (l ∷ m ∷ ls) zero h = let last : true ≡ false = sym (ap is_last h.0) ∙ h.1 in cc
trees_in (l ∷ m ∷ ls) (suc k) h =
    ⊎_elim
    (λ s. let after : suc k + 1 ≡ suc (suc k) = omega arith in
    let follows : Follows (place_after (place.Nodes (suc k)) (line.Split s.quantity s.cut)) (m ∷ ls) = subst (λ x. Follows (place_after (place.Nodes (suc k)) x) (m ∷ ls)) s.is h.2 in
    subst (λ x. AreTrees (suc k) (x ∷ m ∷ ls)) (sym s.is)
    (with_split k s.quantity s.cut (m ∷ ls) s.writable (trees_in (m ∷ ls) (suc (suc k)) (subst (λ n. Follows (place.Nodes n) (m ∷ ls)) after follows))))
    (λ s. let after : suc k - 1 ≡ k = omega arith in
    let follows : Follows (place_after (place.Nodes (suc k)) (line.Leaf s.mult)) (m ∷ ls) = subst (λ x. Follows (place_after (place.Nodes (suc k)) x) (m ∷ ls)) s.is h.2 in
    subst (λ x. AreTrees (suc k) (x ∷ m ∷ ls)) (sym s.is)
    (with_leaf k s.mult (m ∷ ls) s.writable (trees_in (m ∷ ls) k (subst (λ n. Follows (place.Nodes n) (m ∷ ls)) after follows))))
    h.0

-- one tree
record IsTreeLines (ls : List CertLine) : Type 0 where
  tree : BoxTree
  in_range : HasNodes tree
  lines : ls ≡ map node_line (preorder tree) ++ line.End ∷ []

tree_in : (ls : List CertLine) → Follows (place.Nodes 1) ls → IsTreeLines ls
tree_in ls h = let t = trees_in ls 1 h in one t.trees t.count t.in_range t.lines
  where
    one : (trees : List BoxTree) → length trees ≡ 1 → AllTrees trees → ls ≡ map node_line (flat_map preorder trees) ++ line.End ∷ [] → IsTreeLines ls
    one [] count all lines = absurd (omega (arith, count))
    one (t ∷ []) count all lines = record { tree = t; in_range = all.0; lines = lines ∙ ap (λ ns. map node_line ns ++ line.End ∷ []) (append-nil (preorder t)) }
    one (t ∷ u ∷ trees) count all lines = absurd (omega (arith, count))

-- the lines are those of a certificate
pub record AreCertificateLines (ls : List CertLine) : Type 0 where
  pub certificate : Certificate
  pub is : IsCertificate certificate
  pub lines : ls ≡ lines_of certificate

after_point : (v : Verdict) (m : Multipliers) (point : Option (List (ℕ × ℤ))) (ls : List CertLine) → HasRanges v → AreWritable m → HasEntries point → is_some point ≡ is_some (named_value v) → IsTreeLines ls → AreCertificateLines (line.Header ∷ line.Verdict v ∷ line.Root m ∷ line.Point point ∷ ls)
after_point v m point ls ranges writable entries named h = record {
  certificate = record { verdict = v; root = m; point = point; tree = h.tree };
  is = record { verdict = ranges; root = writable; point = entries; tree = h.in_range; point_where_named = named };
  lines = ap (λ xs. line.Header ∷ line.Verdict v ∷ line.Root m ∷ line.Point point ∷ xs) h.lines;
}

after_root : (v : Verdict) (m : Multipliers) (ls : List CertLine) → HasRanges v → AreWritable m → Follows (place.Point (is_some (named_value v))) ls → AreCertificateLines (line.Header ∷ line.Verdict v ∷ line.Root m ∷ ls)
after_root v m [] ranges writable h = absurd h
after_root v m (l ∷ []) ranges writable h = let both_are : line.Point h.0.point ≡ line.End = sym h.0.is ∙ h.1 in cc
after_root v m (l ∷ next ∷ ls) ranges writable h =
    subst (λ x. AreCertificateLines (line.Header ∷ line.Verdict v ∷ line.Root m ∷ x ∷ next ∷ ls)) (sym h.0.is)
    (after_point v m h.0.point (next ∷ ls) ranges writable h.0.entries h.0.where_named (tree_in (next ∷ ls) h.2))

after_verdict : (v : Verdict) (ls : List CertLine) → HasRanges v → Follows (place.Root (is_some (named_value v))) ls → AreCertificateLines (line.Header ∷ line.Verdict v ∷ ls)
after_verdict v [] ranges h = absurd h
after_verdict v (l ∷ []) ranges h = let both_are : line.Root h.0.root ≡ line.End = sym h.0.is ∙ h.1 in cc
after_verdict v (l ∷ next ∷ ls) ranges h =
    subst (λ x. AreCertificateLines (line.Header ∷ line.Verdict v ∷ x ∷ next ∷ ls)) (sym h.0.is)
    (after_root v h.0.root (next ∷ ls) ranges h.0.writable h.2)

after_header : (ls : List CertLine) → Follows place.Verdict ls → AreCertificateLines (line.Header ∷ ls)
after_header [] h = absurd h
after_header (l ∷ []) h = let both_are : line.Verdict h.0.verdict ≡ line.End = sym h.0.is ∙ h.1 in cc
after_header (l ∷ next ∷ ls) h =
    let follows : Follows (place.Root (is_some (named_value h.0.verdict))) (next ∷ ls) = subst (λ x. Follows (place.Root (has_point_after x)) (next ∷ ls)) h.0.is h.2 in
    subst (λ x. AreCertificateLines (line.Header ∷ x ∷ next ∷ ls)) (sym h.0.is)
    (after_verdict h.0.verdict (next ∷ ls) h.0.ranges follows)

certificate_of_lines : (ls : List CertLine) → Follows place.Header ls → AreCertificateLines ls
certificate_of_lines [] h = absurd h
certificate_of_lines (l ∷ []) h = let both_are : line.Header ≡ line.End = sym h.0 ∙ h.1 in cc
certificate_of_lines (l ∷ next ∷ ls) h =
    subst (λ x. AreCertificateLines (x ∷ next ∷ ls)) (sym h.0) (after_header (next ∷ ls) h.2)

-- ---- whole texts
-- the text of a certificate has the lines of it
pub text_back : (c : Certificate) → IsCertificate c → text_lines (certificate_text c) ≡ Ok (lines_of c)
text_back c h =
    ap (λ xs. text_lines xs) (sym (append-nil (certificate_text c)))
    ∙ lines_again (lines_of c) place.Header 0 [] (lines_follow c h)

-- a text that has the lines of a certificate is the text of it
pub text_forth : (c : Certificate) (bytes : List ℕ) → text_lines bytes ≡ Ok (lines_of c) → bytes ≡ certificate_text c
text_forth c bytes h = sym (join-pieces 10 bytes) ∙ (pieces_back (pieces 10 bytes) place.Header 0 (lines_of c) h).0

-- a text without a fault is the text of a certificate
pub text_certificate : (bytes : List ℕ) (ls : List CertLine) → text_lines bytes ≡ Ok ls → AreCertificateLines ls
text_certificate bytes ls h = certificate_of_lines ls (pieces_back (pieces 10 bytes) place.Header 0 ls h).1

-- where bytes are missing, the text is cut off
pub text_front : (c : Certificate) (bytes : List ℕ) → IsFrontOf c bytes → text_lines bytes ≡ Err Truncated
text_front c bytes h = front_again (lines_of c) place.Header 0 bytes h.missing (lines_follow c h.certificate) h.some h.written

-- bytes after the text are told
pub text_longer : (c : Certificate) (bytes : List ℕ) → IsLongerThan c bytes → text_lines bytes ≡ Err Trailing
text_longer c bytes h =
    ap (λ xs. text_lines xs) h.written
    ∙ lines_again (lines_of c) place.Header 0 h.more (lines_follow c h.certificate)
    ∙ ap (λ b. cond b (Err Trailing) (Ok (lines_of c))) (has_some h.more h.some)
  where
    has_some : (more : List ℕ) → more ≢ [] → has_bytes (pieces 10 more) ≡ true
    has_some [] some = absurd (some refl)
    has_some (b ∷ bs) some = let one : not (length (b ∷ bs) == 0) ≡ true = grind (arith, nat_tests) in has_bytes_rest (b ∷ bs) ∙ one

-- equal texts are those of equal certificates
pub same_text : (c d : Certificate) → IsCertificate c → IsCertificate d → certificate_text c ≡ certificate_text d → c ≡ d
same_text c d first second h =
    let lines : ◌≡◌ {A = Result (List CertLine) CertFault} (Ok (lines_of c)) (Ok (lines_of d)) = sym (text_back c first) ∙ ap (λ xs. text_lines xs) h ∙ text_back d second in
    same_certificate c d cc

pub own_text : (bytes : List ℕ) → IsOwnText bytes
own_text bytes = record {
  one = λ c d first second. same_text c d first.certificate second.certificate (sym first.written ∙ second.written);
  whole = λ c d first front. apart c (ap (λ xs. text_lines xs) first.written ∙ text_back c first.certificate) (text_front d bytes front);
}
  where
    apart : (c : Certificate) → text_lines bytes ≡ Ok (lines_of c) → text_lines bytes ≡ Err Truncated → ⊥
    apart c whole front = cc

-- ---- what a call answers that tells the lines of a text
-- the text of what is answered
pub told_text : (bytes : List ℕ) (r : Result Certificate CertFault) → Tells lines_of r (text_lines bytes) → IfOk r (λ c. bytes ≡ certificate_text c)
told_text bytes (Ok d) told = text_forth d bytes told
told_text bytes (Err fault) told = tt

-- a text of a certificate is answered with it
pub told_answer : (bytes : List ℕ) (r : Result Certificate CertFault) (c : Certificate) → Tells lines_of r (text_lines bytes) → IsTextOf c bytes → IsAnswer r c
told_answer bytes r c told h = answer r told (ap (λ xs. text_lines xs) h.written ∙ text_back c h.certificate)
  where
    answer : (r : Result Certificate CertFault) → Tells lines_of r (text_lines bytes) → text_lines bytes ≡ Ok (lines_of c) → IsAnswer r c
    answer (Ok d) told is =
        let lines : ◌≡◌ {A = Result (List CertLine) CertFault} (Ok (lines_of d)) (Ok (lines_of c)) = sym told ∙ is in
        same_certificate d c cc
    answer (Err (BadLine n)) told is = cc
    answer (Err (Range n)) told is = cc
    answer (Err (Order n)) told is = cc
    answer (Err Truncated) told is = cc
    answer (Err Trailing) told is = cc
    answer (Err OutOfMemory) told is = tt

-- a fault of a text is answered
told_fault : (bytes : List ℕ) (r : Result Certificate CertFault) (fault : CertFault) → Tells lines_of r (text_lines bytes) → text_lines bytes ≡ Err fault → IsRefusal r fault
told_fault bytes (Ok d) fault told is = cc
told_fault bytes (Err (BadLine n)) fault told is = cc
told_fault bytes (Err (Range n)) fault told is = cc
told_fault bytes (Err (Order n)) fault told is = cc
told_fault bytes (Err Truncated) fault told is = cc
told_fault bytes (Err Trailing) fault told is = cc
told_fault bytes (Err OutOfMemory) fault told is = tt

pub told_front : (bytes : List ℕ) (r : Result Certificate CertFault) (c : Certificate) → Tells lines_of r (text_lines bytes) → IsFrontOf c bytes → IsRefusal r Truncated
told_front bytes r c told h = told_fault bytes r Truncated told (text_front c bytes h)

pub told_longer : (bytes : List ℕ) (r : Result Certificate CertFault) (c : Certificate) → Tells lines_of r (text_lines bytes) → IsLongerThan c bytes → IsRefusal r Trailing
told_longer bytes r c told h = told_fault bytes r Trailing told (text_longer c bytes h)
