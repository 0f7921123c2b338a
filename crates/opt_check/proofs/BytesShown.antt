-- What the lines of a certificate's text show is what the certificate shows.
use Rattle.std.proofs.Common.{◌≡◌, ℕ, List, [], ◌∷◌, map, length, Option, Result, Ok, Err, IfOk, ℤ, pos, ◌≤ℤ◌, refl, ap, sym, ◌∙◌, subst, arith}
use Rattle.opt_base.specs.Answers.{◌>>=◌}
use Rattle.opt_base.specs.declared.verdict.Verdict.{Verdict}
use Rattle.opt_system.specs.Systems.{System, IsLimited}
use Rattle.opt_bound.specs.Multipliers.{Multipliers}
use Rattle.opt_tree.specs.declared.cert_node.CertNode.{CertNode}
use Rattle.opt_tree.specs.declared.cert_node.CertNode.TheVariants as node
use Rattle.opt_tree.specs.declared.check_fault.CheckFault.{CheckFault}
use Rattle.opt_tree.specs.Trees.{BoxTree, preorder, node_count}
use Rattle.opt_tree.specs.Certificates.{Certificate, IsCertificate, listed_point}
use Rattle.opt_tree.specs.Shown.{Known, Seen, nothing_seen, look, conclude, shown}
use Rattle.opt_tree.specs.Reading.{Read, take_node, run, first_read}
use Rattle.opt_tree.specs.Verdicts.{IsTrueVerdict}
use Rattle.opt_tree.proofs.ReadingLemmas.{run-all}
use Rattle.opt_tree.proofs.LookTrue.{Adds, looked}
use Rattle.opt_tree.proofs.ShownTrue.{shown_true}
use Rattle.opt_cert.specs.declared.cert_fault.CertFault.{CertFault}
use Rattle.opt_cert.specs.declared.cert_fault.CertFault.TheVariants.{BadLine, Range as RangeFault, Order, Truncated, Trailing, OutOfMemory}
use Rattle.opt_cert.specs.declared.cert_line.CertLine.{CertLine}
use Rattle.opt_cert.specs.declared.cert_line.CertLine.TheVariants as line
use Rattle.opt_cert.specs.Reading.{Fails, text_lines}
use Rattle.opt_cert.specs.Texts.{node_line, lines_of}
use Rattle.opt_cert.specs.Wholes.{IsTextOf}
use Rattle.opt_cert.proofs.WholeLaws.{text_back, text_forth, text_certificate}
use Rattle.opt_check.specs.declared.bytes_fault.BytesFault.{BytesFault}
use Rattle.opt_check.specs.declared.bytes_fault.BytesFault.TheVariants.{Cert, Check, OutOfMemory as BytesMemory}
use Rattle.opt_check.specs.declared.progress.Progress.{Progress}
use Rattle.opt_check.specs.Bytes.{HasCertificate, IsOfText, IsOfShown, IsTrueOfText, IsOwnFault, of_cert_fault}
use Rattle.opt_check.specs.Claims.{look_claims, look_nodes}
use Rattle.opt_check.specs.Progress.{first_progress, take_line, with_node, at_hand, after_line, answer_at, as_answer, answer_of}
use Rattle.opt_check.proofs.CheckSteps.{shown_is}
use Rattle.opt_check.proofs.NamedFaults.{shown_own}
use Rattle.opt_check.proofs.BytesSteps.{take_lines, take_lines-append}

-- ---- the lines of the nodes
take_lines_fault : (s : System) (gap : ℤ) (lines : List CertLine) (fault : CheckFault) → take_lines s gap lines (Err fault) ≡ Err fault
take_lines_fault s gap [] fault = refl
take_lines_fault s gap (l ∷ lines) fault = take_lines_fault s gap lines fault

abbrev progress_at : Progress → Read → Progress
progress_at p read = record p { walk = read.waiting; seen = read.seen }

node_taken : (s : System) (gap : ℤ) (n : CertNode) (p : Progress) → take_line s gap (node_line n) p ≡ with_node s n p
node_taken s gap (node.Leaf m) p = refl
node_taken s gap (node.Split j t) p = refl

-- one node and then the others
node_then : (s : System) (gap : ℤ) (nodes : List CertNode) (p : Progress) → ((next : Read) → take_lines s gap (map node_line nodes) (Ok (progress_at p next)) ≡ (run s p.known next nodes >>= λ read. Ok (progress_at p read))) → (r : Result Read CheckFault) → take_lines s gap (map node_line nodes) (r >>= λ read. Ok (progress_at p read)) ≡ ((r >>= λ next. run s p.known next nodes) >>= λ read. Ok (progress_at p read))
node_then s gap nodes p others (Ok next) = others next
node_then s gap nodes p others (Err fault) = take_lines_fault s gap (map node_line nodes) fault

nodes_taken : (s : System) (gap : ℤ) (nodes : List CertNode) (p : Progress) → take_lines s gap (map node_line nodes) (Ok p) ≡ (run s p.known (record { seen = p.seen; waiting = p.walk }) nodes >>= λ read. Ok (progress_at p read))
nodes_taken s gap [] p = refl
nodes_taken s gap (n ∷ nodes) p =
    ap (take_lines s gap (map node_line nodes)) (node_taken s gap n p)
    ∙ node_then s gap nodes p (λ next. nodes_taken s gap nodes (progress_at p next)) (take_node s p.known n p.seen p.walk)

-- ---- how many nodes there are
abbrev read_at : Seen → Read
read_at a = record { seen = a; waiting = [] }

counted_by : (s : System) (k : Known) (tree : BoxTree) (count : ℕ) (r : Result Seen CheckFault) → ((a : Seen) → r ≡ Ok a → a.nodes ≡ count) → (read : Read) → (r >>= λ a. Ok (read_at a)) ≡ Ok read → read.seen.nodes ≡ count
counted_by s k tree count (Ok a) h read is = let e : a ≡ read.seen = ap (λ (x : Read). x.seen) (let f : read_at a ≡ read = cc in f) in sym (ap (λ (x : Seen). x.nodes) e) ∙ h a refl
counted_by s k tree count (Err fault) h read is = cc

counted : (s : System) (k : Known) (c : Certificate) → IsLimited s → IsCertificate c → (read : Read) → run s k (first_read s) (preorder c.tree) ≡ Ok read → read.seen.nodes ≡ node_count c.tree
counted s k c limited certificate read is =
    counted_by s k c.tree (node_count c.tree) (look s k nothing_seen s.root c.tree)
    (λ a looks.
    let adds : Adds s k s.root nothing_seen a (node_count c.tree) = looked s k s.root nothing_seen a c.tree limited certificate.tree limited.ordered looks in
    omega (arith, adds.nodes))
    read (sym (run-all s k nothing_seen s.root c.tree) ∙ is)

-- ---- all lines
finish : (limit : ℕ) (p : Progress) (count : ℕ) (r : Result Read CheckFault) → ((read : Read) → r ≡ Ok read → read.seen.nodes ≡ count) → ((r >>= λ read. Ok (progress_at p read)) >>= answer_at limit) ≡ (((r >>= λ read. Ok read.seen) >>= λ seen. conclude limit p.verdict p.known seen) >>= λ v. Ok (v, count))
finish limit p count (Ok read) h =
    ap (λ n. conclude limit p.verdict p.known read.seen >>= λ v. Ok (v, n)) (h read refl)
finish limit p count (Err fault) h = refl

abbrev claimed : System → Verdict → Multipliers → Known → Progress
claimed s v m k = record { verdict = v; root = m; known = k; walk = s.root ∷ []; seen = nothing_seen }

ended : (s : System) (gap : ℤ) (x : Result Progress CheckFault) → after_line s gap line.End x ≡ x
ended s gap (Ok p) = refl
ended s gap (Err fault) = refl

by_claims : (s : System) (gap : ℤ) (limit : ℕ) (c : Certificate) → IsLimited s → IsCertificate c → (q : Result Known CheckFault) → (take_lines s gap (map node_line (preorder c.tree)) (q >>= λ k. Ok (claimed s c.verdict c.root k)) >>= answer_at limit) ≡ ((q >>= λ k. look_nodes s k (preorder c.tree) >>= λ seen. conclude limit c.verdict k seen) >>= λ v. Ok (v, node_count c.tree))
by_claims s gap limit c limited certificate (Ok k) =
    ap (λ (x : Result Progress CheckFault). x >>= answer_at limit) (nodes_taken s gap (preorder c.tree) (claimed s c.verdict c.root k))
    ∙ finish limit (claimed s c.verdict c.root k) (node_count c.tree) (run s k (first_read s) (preorder c.tree)) (counted s k c limited certificate)
by_claims s gap limit c limited certificate (Err fault) =
    ap (λ (x : Result Progress CheckFault). x >>= answer_at limit) (take_lines_fault s gap (map node_line (preorder c.tree)) fault)

pub lines_shown : (s : System) (gap : ℤ) (limit : ℕ) (c : Certificate) → IsLimited s → IsCertificate c → (take_lines s gap (lines_of c) (Ok (first_progress s)) >>= answer_at limit) ≡ (shown s gap limit c >>= λ v. Ok (v, node_count c.tree))
lines_shown s gap limit c limited certificate =
    ap (λ (x : Result Progress CheckFault). x >>= answer_at limit)
    (take_lines-append s gap (map node_line (preorder c.tree)) (line.End ∷ []) (look_claims s gap c.verdict c.root c.point >>= λ k. Ok (claimed s c.verdict c.root k))
    ∙ ended s gap (take_lines s gap (map node_line (preorder c.tree)) (look_claims s gap c.verdict c.root c.point >>= λ k. Ok (claimed s c.verdict c.root k))))
    ∙ by_claims s gap limit c limited certificate (look_claims s gap c.verdict c.root c.point)
    ∙ ap (λ (x : Result Verdict CheckFault). x >>= λ v. Ok (v, node_count c.tree)) (sym (shown_is s gap limit c (preorder c.tree) refl))

-- ---- the text
-- a text without a fault is that of a certificate
pub has_certificate : (bytes : List ℕ) (lines : List CertLine) → text_lines bytes ≡ Ok lines → HasCertificate bytes
has_certificate bytes lines right =
    let t = text_certificate bytes lines right in
    record {
      certificate = t.certificate;
      text = record { certificate = t.is; written = text_forth t.certificate bytes (right ∙ ap Ok t.lines) };
    }

-- the text of a certificate has its lines
pub lines_of_text : (bytes : List ℕ) (c : Certificate) → IsTextOf c bytes → text_lines bytes ≡ Ok (lines_of c)
lines_of_text bytes c h = ap (λ xs. text_lines xs) h.written ∙ text_back c h.certificate

-- ---- the answer
-- what is answered at the end of a text is of this text
pub of_text : (bytes : List ℕ) (x : Result (Verdict × ℕ) CheckFault) → HasCertificate bytes → IsOfText (as_answer x) bytes
of_text bytes (Ok answer) h = h
of_text bytes (Err fault) h = h

of_shown_by : (count : ℕ) (r : Result Verdict CheckFault) → IsOfShown (as_answer (r >>= λ v. Ok (v, count))) r count
of_shown_by count (Ok v) = (refl, refl)
of_shown_by count (Err fault) = refl

abbrev with_count : ℕ → Verdict → Result (Verdict × ℕ) CheckFault
with_count count v = Ok (v, count)

true_by : (s : System) (gap : ℤ) (limit : ℕ) (c : Certificate) (r : Result Verdict CheckFault) → IsLimited s → pos 0 ≤ℤ gap → IsCertificate c → shown s gap limit c ≡ r → IfOk {T = Verdict × ℕ} (as_answer (r >>= with_count (node_count c.tree))) (λ answer. IsTrueVerdict s gap answer.0 (listed_point (length s.cost) c.point))
true_by s gap limit c (Ok v) limited from certificate is = shown_true s gap limit c v limited from certificate is
true_by s gap limit c (Err fault) limited from certificate is = tt

module _ (s : System) (gap : ℤ) (limit : ℕ) (p : Progress) (held : Option CheckFault) (c : Certificate) (limited : IsLimited s) (certificate : IsCertificate c) (taken : at_hand held p ≡ take_lines s gap (lines_of c) (Ok (first_progress s))) where
  pub answered : answer_of limit p held ≡ as_answer (shown s gap limit c >>= λ v. Ok (v, node_count c.tree))
  answered =
      ap (λ (x : Result Progress CheckFault). as_answer (x >>= answer_at limit)) taken
      ∙ ap as_answer (lines_shown s gap limit c limited certificate)

  pub of_shown : IsOfShown (answer_of limit p held) (shown s gap limit c) (node_count c.tree)
  of_shown = subst (λ (x : Result (Verdict × ℕ) BytesFault). IsOfShown x (shown s gap limit c) (node_count c.tree)) (sym answered) (of_shown_by (node_count c.tree) (shown s gap limit c))

  pub answer_true : pos 0 ≤ℤ gap → IfOk (answer_of limit p held) (λ answer. IsTrueVerdict s gap answer.0 (listed_point (length s.cost) c.point))
  answer_true from = subst (λ (x : Result (Verdict × ℕ) BytesFault). IfOk x (λ answer. IsTrueVerdict s gap answer.0 (listed_point (length s.cost) c.point))) (sym answered) (true_by s gap limit c (shown s gap limit c) limited from certificate refl)

-- ---- a fault of the text
pub fault_of_text : (bytes : List ℕ) (fault : CertFault) → Fails fault (text_lines bytes) → IsOfText (Err (of_cert_fault fault)) bytes
fault_of_text bytes OutOfMemory failed = tt
fault_of_text bytes fault failed = failed

pub fault_of_shown : (bytes : List ℕ) (fault : CertFault) (lines : List CertLine) (r : Result Verdict CheckFault) (count : ℕ) → Fails fault (text_lines bytes) → text_lines bytes ≡ Ok lines → IsOfShown (Err (of_cert_fault fault)) r count
fault_of_shown bytes OutOfMemory lines r count failed right = tt
fault_of_shown bytes (BadLine n) lines r count failed right = cc
fault_of_shown bytes (RangeFault n) lines r count failed right = cc
fault_of_shown bytes (Order n) lines r count failed right = cc
fault_of_shown bytes Truncated lines r count failed right = cc
fault_of_shown bytes Trailing lines r count failed right = cc

pub same_lines : (bytes : List ℕ) (xs ys : List CertLine) → text_lines bytes ≡ Ok xs → text_lines bytes ≡ Ok ys → xs ≡ ys
same_lines bytes xs ys first second = cc

-- ---- of the text's own certificate
-- a verdict that is true for each certificate of the text is true of the text
pub true_of_text : (s : System) (gap : ℤ) (bytes : List ℕ) (r : Result (Verdict × ℕ) BytesFault) (h : HasCertificate bytes) → IfOk r (λ answer. IsTrueVerdict s gap answer.0 (listed_point (length s.cost) h.certificate.point)) → IfOk r (λ answer. IsTrueOfText s gap bytes answer.0)
true_of_text s gap bytes (Ok answer) h is_true = record { certificate = h.certificate; text = h.text; is_true = is_true }
true_of_text s gap bytes (Err fault) h is_true = tt

-- ---- want of memory
pub own_of_text : (fault : CertFault) → IsOwnFault (Err (of_cert_fault fault))
own_of_text (BadLine n) = λ e. cc
own_of_text (RangeFault n) = λ e. cc
own_of_text (Order n) = λ e. cc
own_of_text Truncated = λ e. cc
own_of_text Trailing = λ e. cc
own_of_text OutOfMemory = tt

pub own_of_shown : (s : System) (gap : ℤ) (limit : ℕ) (c : Certificate) (r : Result (Verdict × ℕ) BytesFault) → IsOfShown r (shown s gap limit c) (node_count c.tree) → IsOwnFault r
own_of_shown s gap limit c (Ok answer) h = tt
own_of_shown s gap limit c (Err (Cert fault)) h = absurd h
own_of_shown s gap limit c (Err (Check fault)) h = λ e. shown_own s gap limit c (h ∙ ap Err e)
own_of_shown s gap limit c (Err BytesMemory) h = tt
