-- The text of a planned certificate is within the limit of those that are read.
use Rattle.std.proofs.Common.{◌≡◌, ℕ, zero, suc, ◌+◌, ◌*◌, ◌^◌, ◌<◌, ◌≤◌, true, List, [], ◌∷◌, ◌++◌, length, get_or, map, All, Option, Some, None, Result, Ok, ℤ, pos, negsuc, unsigned_abs, refl, ap, ◌∙◌, arith, length-append}
use Rattle.std.specs.List.{join_with_byte, AllByRecursion}
use Rattle.std.specs.Fmt.{decimal, signed_decimal}
use Rattle.std.specs.Prelude.{codes, is_none}
use Rattle.std.proofs.lemmas.Fmt.{length-decimal-le_wide}
use Rattle.std.proofs.lemmas.Int.{ints}
use Rattle.std.proofs.Math.Nat.{mul-add, mul-one}
use Rattle.std.proofs.lemmas.List.{map-append}
use Rattle.std.proofs.lemmas.List.Concat.{flat_map-append}
use Rattle.std.proofs.lemmas.List.Elements.{recursion_from_All}
use Rattle.opt_base.specs.Answers.{◌>>=◌}
use Rattle.opt_base.specs.declared.verdict.Verdict.{Verdict}
use Rattle.opt_base.specs.declared.verdict.Verdict.TheVariants as verdict
use Rattle.opt_sums.specs.Entries.{IsRising}
use Rattle.opt_system.specs.Ranges.{Range}
use Rattle.opt_system.specs.Cuts.{left_half, right_half}
use Rattle.opt_system.specs.Systems.{System}
use Rattle.opt_bound.specs.Faults.{first_fault_of}
use Rattle.opt_bound.specs.Multipliers.{Multipliers, IsAdmissible}
use Rattle.opt_bound.specs.declared.fault.EntryFault.{EntryFault}
use Rattle.opt_bound.proofs.FaultLemmas.{admissible_of}
use Rattle.opt_tree.specs.declared.check_fault.CheckFault.{CheckFault}
use Rattle.opt_tree.specs.declared.check_fault.CheckFault.TheVariants.{RootLine}
use Rattle.opt_tree.specs.Certificates.{Certificate, IsInRange, HasRanges, AreWritable, HasEntries, HasNodes, IsCertificate}
use Rattle.opt_tree.specs.Shown.{Known, Seen, nothing_seen, leaf_at, judge_leaf, unless_wrong, root_bound_of, look_root, look_point, look_cut, look, conclude, known_of, shown}
use Rattle.opt_tree.specs.Trees.{BoxTree, leaf, split, node_count, leaf_count, preorder}
use Rattle.opt_tree.proofs.Steps.{then_ok, then_if}
use Rattle.opt_cert.specs.declared.cert_line.CertLine.{CertLine}
use Rattle.opt_cert.specs.declared.cert_line.CertLine.TheVariants as line
use Rattle.opt_cert.specs.Texts.{entry_text, entries_words, multipliers_words, verdict_words, point_words, words_of, line_text, node_line, text_of_lines, certificate_text}

-- ---- numbers
short_number : (n : ℕ) → n < 10 ^ 19 → length (decimal n) ≤ 19
short_number n small = length-decimal-le_wide 19 n (omega arith) small (omega arith)

short_signed : (z : ℤ) → unsigned_abs z < 10 ^ 19 → length (signed_decimal z) ≤ 20
short_signed (pos n) small = (let short = short_number n small in omega arith)
short_signed (negsuc n) small = (let short = short_number (suc n) small in omega arith)

-- ---- words and lines
-- how long words are with what parts them
abbrev width : List (List ℕ) → ℕ
width [] = 0
width (w ∷ ws) = length w + 1 + width ws

joined_within : (ws : List (List ℕ)) → length (join_with_byte 32 ws) ≤ width ws
joined_within [] = omega arith
joined_within (w ∷ []) = omega arith
joined_within (w ∷ v ∷ ws) =
    let rest = joined_within (v ∷ ws) in
    let both = length-append w (32 ∷ join_with_byte 32 (v ∷ ws)) in
    omega (arith, rest, both)

-- the numbers of an entry are written in 40 bytes with what stands between
pub record IsShort (e : ℕ × ℤ) : Type 0 where
  pub number : e.0 < 10 ^ 19
  pub value : unsigned_abs e.1 < 10 ^ 19

entry_within : (e : ℕ × ℤ) → IsShort e → length (entry_text e) + 1 ≤ 41
entry_within e h =
    let number = short_number e.0 h.number in
    let value = short_signed e.1 h.value in
    let both = length-append (decimal e.0) (58 ∷ signed_decimal e.1) in
    omega (arith, number, value, both)

entries_within : (es : List (ℕ × ℤ)) → AllByRecursion IsShort es → width (map entry_text es) ≤ 41 * length es
entries_within [] h = omega arith
entries_within (e ∷ es) h =
    let one = entry_within e h.0 in
    let more = entries_within es h.1 in
    omega (arith, one, more)

listed_within : (es : List (ℕ × ℤ)) → length es < 10 ^ 19 → AllByRecursion IsShort es → width (entries_words es) ≤ 20 + 41 * length es
listed_within es few h =
    let count = short_number (length es) few in
    let all = entries_within es h in
    omega (arith, count, all)

-- a line of multipliers with so many entries, after a word of at most 4 bytes
multipliers_within : (w : List ℕ) (m : Multipliers) (most : ℕ) → length w ≤ 4 → unsigned_abs m.q < 10 ^ 19 → AllByRecursion IsShort m.entries → length m.entries ≤ most → most < 10 ^ 19
    → length (join_with_byte 32 (w ∷ multipliers_words m) ++ 10 ∷ []) ≤ 48 + 41 * most
multipliers_within w m most word q short few small =
    let first = short_signed m.q q in
    let entries = listed_within m.entries (omega arith) short in
    let joined = joined_within (w ∷ multipliers_words m) in
    let ended = length-append (join_with_byte 32 (w ∷ multipliers_words m)) (10 ∷ []) in
    omega (arith, first, entries, joined, ended)

split_within : (j : ℕ) (t : ℤ) → j < 10 ^ 19 → unsigned_abs t < 10 ^ 19 → length (line_text (line.Split j t) ++ 10 ∷ []) ≤ 48
split_within j t small_j small_t =
    let number = short_number j small_j in
    let value = short_signed t small_t in
    let joined = joined_within (words_of (line.Split j t)) in
    let ended = length-append (line_text (line.Split j t)) (10 ∷ []) in
    omega (arith, number, value, joined, ended)

-- ---- entries that name rows
at_least : (es : List (ℕ × ℤ)) → IsRising es → (k : ℕ) (d : ℕ × ℤ) → k < length es → k ≤ (get_or es k d).0
at_least es rising zero d l = omega arith
at_least es rising (suc k) d l =
    let low = at_least es rising k d (omega (arith, l)) in
    let more = rising k (suc k) d (omega arith) l in
    omega (arith, low, more)

-- rising numbers below a limit are at most as many
few_rising : (es : List (ℕ × ℤ)) (limit : ℕ) → IsRising es → All (λ e. e.0 < limit) es → length es ≤ limit
few_rising [] limit rising below = omega arith
few_rising (e ∷ es) limit rising below =
    let last : length es < length (e ∷ es) = omega arith in
    let low = at_least (e ∷ es) rising (length es) e last in
    let high = below (length es) e last in
    omega (arith, low, high)

short_entries : (es : List (ℕ × ℤ)) → All (λ e. e.0 < 2 ^ 32) es → All (λ e. unsigned_abs e.1 < 2 ^ 63) es → All IsShort es
short_entries es rows values = λ k d within. record { number = (let n = rows k d within in omega (arith, n)); value = (let v = values k d within in omega (arith, v)) }

short_multipliers : (m : Multipliers) → AreWritable m → All IsShort m.entries
short_multipliers m h =
    short_entries m.entries h.rows (λ k d within. (let small = h.proper.small k d within in omega (arith, small)))

few_multipliers : (s : System) (m : Multipliers) → AreWritable m → IsAdmissible s m → length m.entries ≤ length s.rows
few_multipliers s m h admissible = few_rising m.entries (length s.rows) h.proper.rising (λ k d within. (admissible k d within).0)

-- ---- the nodes
-- each leaf has at most so many entries
abbrev HasFewEntries : ℕ → BoxTree → Type 0
HasFewEntries most (leaf m) = length m.entries ≤ most
HasFewEntries most (split j t left right) = HasFewEntries most left × HasFewEntries most right

no_fault_if : (r : Option EntryFault) (n : ℕ) (m y : Multipliers) → unless_wrong r n m ≡ Ok y → r ≡ None
no_fault_if None n m y h = refl
no_fault_if (Some f) n m y h = cc

few_looked : (s : System) (k : Known) (box : Range) (before after : Seen) (tree : BoxTree) → HasNodes tree → look s k before box tree ≡ Ok after → HasFewEntries (length s.rows) tree
few_looked s k box before after (leaf m) nodes h =
    let p : (y : Multipliers) × (unless_wrong (first_fault_of s m.entries) before.nodes m ≡ Ok y) × (judge_leaf k before (leaf_at s box y) ≡ Ok after) =
    then_ok (unless_wrong (first_fault_of s m.entries) before.nodes m) (λ y. judge_leaf k before (leaf_at s box y)) after h
    in
    few_multipliers s m nodes (admissible_of s m.entries (no_fault_if (first_fault_of s m.entries) before.nodes m p.0 p.1))
few_looked s k box before after (split j t left right) nodes h =
    let p : (a : Seen) × (look_cut before box j t ≡ Ok a) × ((look s k a (left_half box j t) left >>= λ b. look s k b (right_half box j t) right) ≡ Ok after) =
    then_ok (look_cut before box j t) (λ a. look s k a (left_half box j t) left >>= λ b. look s k b (right_half box j t) right) after h
    in
    let q : (b : Seen) × (look s k p.0 (left_half box j t) left ≡ Ok b) × (look s k b (right_half box j t) right ≡ Ok after) =
    then_ok (look s k p.0 (left_half box j t) left) (λ b. look s k b (right_half box j t) right) after p.2
    in
    (few_looked s k (left_half box j t) p.0 q.0 left nodes.1 q.1, few_looked s k (right_half box j t) q.0 after right nodes.2 q.2)

texts_joined : (xs ys : List CertLine) → length (text_of_lines (xs ++ ys)) ≡ length (text_of_lines xs) + length (text_of_lines ys)
texts_joined xs ys =
    ap length (flat_map-append (λ l. line_text l ++ 10 ∷ []) xs ys) ∙ length-append (text_of_lines xs) (text_of_lines ys)

nodes_within : (most : ℕ) (tree : BoxTree) → most < 10 ^ 19 → HasNodes tree → HasFewEntries most tree
    → length (text_of_lines (map node_line (preorder tree))) ≤ 48 * node_count tree + 41 * (most * leaf_count tree)
nodes_within most (leaf m) small nodes few =
    let one = multipliers_within (codes "leaf") m most (omega arith) (let q = nodes.proper.q_small in omega (arith, q)) (recursion_from_All IsShort m.entries (short_multipliers m nodes)) few small in
    let all = length-append (line_text (line.Leaf m) ++ 10 ∷ []) [] in
    let alone : most * 1 ≡ most = mul-one most in
    omega (arith, one, all, alone)
nodes_within most (split j t left right) small nodes few =
    let first = split_within j t (let n = nodes.0.quantity_small in omega (arith, n)) (let v = nodes.0.small in omega (arith, v)) in
    let on_left = nodes_within most left small nodes.1 few.0 in
    let on_right = nodes_within most right small nodes.2 few.1 in
    let halves : length (text_of_lines (map node_line (preorder left ++ preorder right))) ≡ length (text_of_lines (map node_line (preorder left))) + length (text_of_lines (map node_line (preorder right))) =
    ap (λ ls. length (text_of_lines ls)) (map-append node_line (preorder left) (preorder right)) ∙ texts_joined (map node_line (preorder left)) (map node_line (preorder right))
    in
    let whole = length-append (line_text (line.Split j t) ++ 10 ∷ []) (text_of_lines (map node_line (preorder left ++ preorder right))) in
    let leaves : most * (leaf_count left + leaf_count right) ≡ most * leaf_count left + most * leaf_count right = mul-add most (leaf_count left) (leaf_count right) in
    omega (arith, first, on_left, on_right, halves, whole, leaves)

-- ---- the lines before the nodes
long_number : (z : ℤ) → IsInRange z → length (signed_decimal z) ≤ 39
long_number (pos n) h = (let small = h.small in length-decimal-le_wide 39 n (omega arith) (omega (arith, small)) (omega (arith, small)))
long_number (negsuc n) h = absurd (omega (arith, ints, h.from_zero))

line_within : (l : CertLine) → length (line_text l ++ 10 ∷ []) ≤ width (words_of l) + 1
line_within l =
    let joined = joined_within (words_of l) in
    let ended = length-append (line_text l) (10 ∷ []) in
    omega (arith, joined, ended)

verdict_width : (v : Verdict) → HasRanges v → width (verdict_words v) ≤ 100
verdict_width (verdict.Plan objective bound) ranges = (let o = long_number objective ranges.0 in let b = long_number bound ranges.1 in omega (arith, o, b))
verdict_width verdict.NoPlan ranges = omega arith
verdict_width (verdict.Unfinished bound None) ranges = (let b = long_number bound ranges in omega (arith, b))
verdict_width (verdict.Unfinished bound (Some best)) ranges = (let b = long_number bound ranges.0 in let o = long_number best ranges.1 in omega (arith, o, b))

-- a certificate lists at most so many values
abbrev pub HasFewValues : ℕ → Option (List (ℕ × ℤ)) → Type 0
HasFewValues most None = Unit {0}
HasFewValues most (Some entries) = length entries ≤ most

point_width : (most : ℕ) (point : Option (List (ℕ × ℤ))) → most < 10 ^ 19 → HasEntries point → HasFewValues most point → width (codes "point" ∷ point_words point) ≤ 26 + 41 * most
point_width most None small entries few = omega arith
point_width most (Some es) small entries few =
    let listed = listed_within es (omega (arith, few)) (recursion_from_All IsShort es (short_entries es entries.quantities entries.small)) in
    omega (arith, listed, few)

-- ---- all lines
-- the nodes of a tree and their leaves, where the rows times the nodes are few
leaves_within : (rows nodes leaves : ℕ) → nodes + 1 ≡ 2 * leaves → rows * nodes ≤ 2 ^ 24 → rows ≤ 20000 → rows * leaves ≤ 8400000
leaves_within rows nodes leaves counted product few =
    let twice : rows * (leaves + leaves) ≡ rows * leaves + rows * leaves = mul-add rows leaves leaves in
    let more : rows * (nodes + 1) ≡ rows * nodes + rows * 1 = mul-add rows nodes 1 in
    let one : rows * 1 ≡ rows = mul-one rows in
    let same : rows * (leaves + leaves) ≡ rows * (nodes + 1) = ap (λ n. rows * n) (omega (arith, counted)) in
    omega (arith, twice, more, one, same, product, few)

module _ (s : System) (gap : ℤ) (limit : ℕ) (c : Certificate) (v : Verdict) (is : IsCertificate c) (shows : shown s gap limit c ≡ Ok v) where
  abbrev rest_of : ℤ → Result Verdict CheckFault
  rest_of r = look_point s c.verdict c.point >>= λ best. look s (known_of c.verdict gap r best) nothing_seen s.root c.tree >>= λ seen. conclude limit c.verdict (known_of c.verdict gap r best) seen

  root_few : length c.root.entries ≤ length s.rows
  root_few =
      let p : (r : ℤ) × (look_root s c.verdict c.root ≡ Ok r) × (rest_of r ≡ Ok v) = then_ok (look_root s c.verdict c.root) rest_of v shows in
      let root : (is_none (first_fault_of s c.root.entries) ≡ true) × (root_bound_of c.verdict (leaf_at s s.root c.root) ≡ Ok p.0) =
      then_if (is_none (first_fault_of s c.root.entries)) (root_bound_of c.verdict (leaf_at s s.root c.root)) p.0 RootLine p.1
      in
      few_multipliers s c.root is.root (admissible_of s c.root.entries (none_of (first_fault_of s c.root.entries) root.0))
    where
      none_of : (r : Option EntryFault) → is_none r ≡ true → r ≡ None
      none_of None h = refl
      none_of (Some f) h = absurd cc

  leaves_few : HasFewEntries (length s.rows) c.tree
  leaves_few =
      let p : (r : ℤ) × (look_root s c.verdict c.root ≡ Ok r) × (rest_of r ≡ Ok v) = then_ok (look_root s c.verdict c.root) rest_of v shows in
      let q : (best : Option ℤ) × (look_point s c.verdict c.point ≡ Ok best) × ((look s (known_of c.verdict gap p.0 best) nothing_seen s.root c.tree >>= λ seen. conclude limit c.verdict (known_of c.verdict gap p.0 best) seen) ≡ Ok v) =
      then_ok (look_point s c.verdict c.point) (λ best. look s (known_of c.verdict gap p.0 best) nothing_seen s.root c.tree >>= λ seen. conclude limit c.verdict (known_of c.verdict gap p.0 best) seen) v p.2
      in
      let t : (seen : Seen) × (look s (known_of c.verdict gap p.0 q.0) nothing_seen s.root c.tree ≡ Ok seen) × (conclude limit c.verdict (known_of c.verdict gap p.0 q.0) seen ≡ Ok v) =
      then_ok (look s (known_of c.verdict gap p.0 q.0) nothing_seen s.root c.tree) (λ seen. conclude limit c.verdict (known_of c.verdict gap p.0 q.0) seen) v q.2
      in
      few_looked s (known_of c.verdict gap p.0 q.0) s.root nothing_seen t.0 c.tree is.tree t.1

  -- a certificate that shows its verdict is short, where its nodes times the rows are few
  pub short_text : length s.rows ≤ 20000 → HasFewValues 20000 c.point → node_count c.tree + 1 ≡ 2 * leaf_count c.tree → length s.rows * node_count c.tree ≤ 2 ^ 24 → node_count c.tree ≤ 1000000
      → length (certificate_text c) ≤ 536870912
  short_text rows values counted product few =
      let header = line_within line.Header in
      let verdict_line = line_within (line.Verdict c.verdict) in
      let verdict_few = verdict_width c.verdict is.verdict in
      let root = multipliers_within (codes "root") c.root 20000 (omega arith) (let q = is.root.proper.q_small in omega (arith, q)) (recursion_from_All IsShort c.root.entries (short_multipliers c.root is.root)) (let e = root_few in omega (arith, e, rows)) (omega arith) in
      let point_line = line_within (line.Point c.point) in
      let point_few = point_width 20000 c.point (omega arith) is.point values in
      let nodes = nodes_within (length s.rows) c.tree (omega (arith, rows)) is.tree leaves_few in
      let leaves = leaves_within (length s.rows) (node_count c.tree) (leaf_count c.tree) counted product rows in
      let end = line_within line.End in
      let all_nodes = texts_joined (map node_line (preorder c.tree)) (line.End ∷ []) in
      let a = length-append (line_text line.Header ++ 10 ∷ []) (text_of_lines (line.Verdict c.verdict ∷ line.Root c.root ∷ line.Point c.point ∷ map node_line (preorder c.tree) ++ line.End ∷ [])) in
      let b = length-append (line_text (line.Verdict c.verdict) ++ 10 ∷ []) (text_of_lines (line.Root c.root ∷ line.Point c.point ∷ map node_line (preorder c.tree) ++ line.End ∷ [])) in
      let d = length-append (line_text (line.Root c.root) ++ 10 ∷ []) (text_of_lines (line.Point c.point ∷ map node_line (preorder c.tree) ++ line.End ∷ [])) in
      let e = length-append (line_text (line.Point c.point) ++ 10 ∷ []) (text_of_lines (map node_line (preorder c.tree) ++ line.End ∷ [])) in
      let f = length-append (line_text line.End ++ 10 ∷ []) [] in
      omega (arith, header, verdict_line, verdict_few, root, point_line, point_few, nodes, leaves, end, all_nodes, a, b, d, e, f, few)
