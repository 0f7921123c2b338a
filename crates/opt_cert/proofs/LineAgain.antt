-- A line that stands in its place is read from its text.
use Rattle.std.proofs.Common.{◌≡◌, ℕ, zero, suc, ◌+◌, ◌^◌, ◌<◌, ◌≤◌, ◌==◌, nat_le, Bool, true, false, ◌&&◌, not, cond, List, [], ◌∷◌, ◌++◌, map, length, Option, Some, None, is_some, Result, Ok, Err, ℤ, pos, ◌≢◌, unsigned_abs, All, ◌⊎◌, ⊎_elim, inl, inr, codes, refl, sym, ap, ◌∙◌, subst, arith}
use Rattle.std.specs.List.{join_with_byte, list_all}
use Rattle.std.specs.Option.{option_map, option_and_then, ok_or}
use Rattle.std.specs.Str.{bytes_eq}
use Rattle.std.specs.Fmt.{decimal, signed_decimal}
use Rattle.std.proofs.lemmas.Int.{ints}
use Rattle.std.proofs.lemmas.Bool.Decides.{nat_tests}
use Rattle.std.proofs.lemmas.List.Elements.{All-head, All-tail, All-nil, All-cons, All-append}
use Rattle.opt_base.specs.Answers.{◌>>=◌}
use Rattle.opt_base.specs.declared.verdict.Verdict.{Verdict}
use Rattle.opt_base.specs.declared.verdict.Verdict.TheVariants as verdict
use Rattle.opt_bound.specs.declared.limits.TheConstants.{MULTIPLIER_LIMIT}
use Rattle.opt_bound.specs.Multipliers.{Multipliers}
use Rattle.opt_tree.specs.Certificates.{IsInRange, HasRanges, AreWritable, HasEntries, AreEntries, IsWritableCut}
use Rattle.opt_cert.specs.declared.cert_fault.CertFault.{CertFault}
use Rattle.opt_cert.specs.declared.cert_fault.CertFault.TheVariants as fault
use Rattle.opt_cert.specs.declared.cert_line.CertLine.{CertLine}
use Rattle.opt_cert.specs.declared.cert_line.CertLine.TheVariants as line
use Rattle.opt_cert.specs.declared.place.Place.{Place}
use Rattle.opt_cert.specs.declared.place.Place.TheVariants as place
use Rattle.opt_cert.specs.declared.limits.TheConstants.{NUMBER_LIMIT, VALUE_LIMIT}
use Rattle.opt_cert.specs.Numbers.{pieces, numeral, plain_numeral}
use Rattle.opt_cert.specs.Forms.{both, one, two, counted_form, multipliers_form, verdict_form, header_form, root_form, none_form, entries_or_none, point_form, cut_form, node_form, end_form, tree_form, form}
use Rattle.opt_cert.specs.Ranges.{verdict_in_range, number_in_range, cut_value_in_range, row_in_range, multiplier_in_range, multipliers_in_range, value_in_range, quantity_in_range, point_in_range, rises_from, point_rises, is_in_range, is_in_order}
use Rattle.opt_cert.specs.Reading.{judged, line_at}
use Rattle.opt_cert.specs.Stands.{IsVerdict, IsRoot, IsPoint, IsSplit, IsLeaf, StandsInTree, Stands}
use Rattle.opt_cert.specs.Texts.{entry_text, entries_words, multipliers_words, best_word, verdict_words, point_words, words_of, line_text}
use Rattle.opt_cert.proofs.JudgeLemmas.{mapped_some}
use Rattle.opt_cert.proofs.RangeLemmas.{and_true, both_some, then_some, rises-IsRising}
use Rattle.opt_cert.proofs.StandLemmas.{form_stands}
use Rattle.opt_cert.proofs.DecimalLemmas.{IsFree, numeral_decimal, decimal_numeral, plain_signed, signed_plain, free_decimal, free_signed}
use Rattle.opt_cert.proofs.WordLemmas.{AllFree, pieces-join, join-pieces, same_word, chosen_by, only_by, one_back, two_back, free_by}
use Rattle.opt_cert.proofs.VerdictLemmas.{verdict_again, verdict_fits, verdict_back}
use Rattle.opt_cert.proofs.WordsBack.{IsSpelled, multipliers_again, multipliers_back, point_entries_again, point_entries_back, free_entry, rows_spelled, values_spelled}

-- ---- from a line to its words
pub cut_small : (j : ℕ) (t : ℤ) → IsWritableCut j t → (j < 10 ^ 64) × (unsigned_abs t < 10 ^ 64)
cut_small j t h = (omega (arith, h.quantity_small), omega (arith, h.small))

cut_again : (j : ℕ) (t : ℤ) → IsWritableCut j t → cut_form (decimal j ∷ signed_decimal t ∷ []) ≡ Some (line.Split j t)
cut_again j t h =
    ap (λ o. both line.Split o (plain_numeral (signed_decimal t))) (numeral_decimal j (cut_small j t h).0)
    ∙ ap (both line.Split (Some j)) (plain_signed t h.from_zero (cut_small j t h).1)

point_again : (point : Option (List (ℕ × ℤ))) → HasEntries point → point_form (is_some point) (codes "point" ∷ point_words point) ≡ Some (line.Point point)
point_again None h = refl
point_again (Some es) h = ap (λ o. option_map line.Point (option_map Some o)) (point_entries_again es h)

tree_again : (trees : ℕ) (l : CertLine) → StandsInTree trees l → tree_form trees (words_of l) ≡ Some l
tree_again zero l h = subst (λ x. end_form (words_of x) ≡ Some x) (sym h) refl
tree_again (suc k) l h =
    ⊎_elim
    (λ s. subst (λ x. node_form (words_of x) ≡ Some x) (sym s.is) (cut_again s.quantity s.cut s.writable))
    (λ s. subst (λ x. node_form (words_of x) ≡ Some x) (sym s.is) (ap (option_map line.Leaf) (multipliers_again s.mult s.writable)))
    h

-- a line that stands at a place is read from its words
words_again : (p : Place) (l : CertLine) → Stands p l → form p (words_of l) ≡ Some l
words_again place.Header l h = subst (λ x. header_form (words_of x) ≡ Some x) (sym h) refl
words_again place.Verdict l h =
    subst (λ x. option_map line.Verdict (verdict_form (words_of x)) ≡ Some x) (sym h.is) (ap (option_map line.Verdict) (verdict_again h.verdict h.ranges))
words_again (place.Root has) l h =
    subst (λ x. root_form (words_of x) ≡ Some x) (sym h.is) (ap (option_map line.Root) (multipliers_again h.root h.writable))
words_again (place.Point has) l h =
    subst (λ x. point_form has (words_of x) ≡ Some x) (sym h.is)
    (subst (λ b. point_form b (codes "point" ∷ point_words h.point) ≡ Some (line.Point h.point)) h.where_named (point_again h.point h.entries))
words_again (place.Nodes trees) l h = tree_again trees l h

-- ---- its ranges and its order
all_pass : {A : Type 0} (test : A → Bool) (P : A → Type 0) → ((x : A) → P x → test x ≡ true) → (xs : List A) → All P xs → list_all test xs ≡ true
all_pass test P each [] h = refl
all_pass test P each (x ∷ xs) h =
    ap (λ b. b && list_all test xs) (each x (All-head P x xs h)) ∙ all_pass test P each xs (All-tail P x xs h)

not_zero : (z : ℤ) → z ≢ pos 0 → (unsigned_abs z == 0) ≡ false
not_zero z h = let some : unsigned_abs z ≢ 0 = λ e. h (omega (arith, ints, e)) in grind (arith, nat_tests)

record IsRow (e : ℕ × ℤ) : Type 0 where
  number : e.0 < 2 ^ 32
  some : e.1 ≢ pos 0
  small : unsigned_abs e.1 ≤ MULTIPLIER_LIMIT

row_fits : (e : ℕ × ℤ) → IsRow e → row_in_range e ≡ true
row_fits e h =
    let number : nat_le e.0 NUMBER_LIMIT ≡ true = let most : e.0 ≤ NUMBER_LIMIT = omega (arith, h.number) in grind (arith, nat_tests) in
    let small : nat_le (unsigned_abs e.1) MULTIPLIER_LIMIT ≡ true = let most = h.small in grind (arith, nat_tests) in
    ap (λ b. b && (not (unsigned_abs e.1 == 0) && nat_le (unsigned_abs e.1) MULTIPLIER_LIMIT)) number
    ∙ ap (λ b. not b && nat_le (unsigned_abs e.1) MULTIPLIER_LIMIT) (not_zero e.1 h.some)
    ∙ small

multipliers_fit : (m : Multipliers) → AreWritable m → multipliers_in_range m ≡ true
multipliers_fit m h =
    let first : multiplier_in_range m.q ≡ true = let most = h.proper.q_small in grind (arith, nat_tests) in
    ap (λ b. b && list_all row_in_range m.entries) first
    ∙ all_pass row_in_range IsRow row_fits m.entries (λ k d l. record { number = h.rows k d l; some = h.proper.no_zero k d l; small = h.proper.small k d l })

record IsWorth (e : ℕ × ℤ) : Type 0 where
  number : e.0 < 2 ^ 32
  some : e.1 ≢ pos 0
  small : unsigned_abs e.1 < 2 ^ 63

worth_fits : (e : ℕ × ℤ) → IsWorth e → quantity_in_range e ≡ true
worth_fits e h =
    let number : nat_le e.0 NUMBER_LIMIT ≡ true = let most : e.0 ≤ NUMBER_LIMIT = omega (arith, h.number) in grind (arith, nat_tests) in
    let small : nat_le (unsigned_abs e.1) VALUE_LIMIT ≡ true = let most : unsigned_abs e.1 ≤ VALUE_LIMIT = omega (arith, h.small) in grind (arith, nat_tests) in
    ap (λ b. b && (not (unsigned_abs e.1 == 0) && nat_le (unsigned_abs e.1) VALUE_LIMIT)) number
    ∙ ap (λ b. not b && nat_le (unsigned_abs e.1) VALUE_LIMIT) (not_zero e.1 h.some)
    ∙ small

point_fits : (point : Option (List (ℕ × ℤ))) → HasEntries point → point_in_range point ≡ true
point_fits None h = refl
point_fits (Some es) h =
    all_pass quantity_in_range IsWorth worth_fits es
    (λ k d l. record { number = h.quantities k d l; some = λ e. let from = h.from_one k d l in omega (arith, ints, from, e); small = h.small k d l })

point_in_order : (point : Option (List (ℕ × ℤ))) → HasEntries point → point_rises point ≡ true
point_in_order None h = refl
point_in_order (Some es) h = rises-IsRising es h.rising

cut_fits : (j : ℕ) (t : ℤ) → IsWritableCut j t → is_in_range (line.Split j t) ≡ true
cut_fits j t h =
    let number : nat_le j NUMBER_LIMIT ≡ true = let most : j ≤ NUMBER_LIMIT = omega (arith, h.quantity_small) in grind (arith, nat_tests) in
    let small : nat_le (unsigned_abs t) VALUE_LIMIT ≡ true = let most : unsigned_abs t ≤ VALUE_LIMIT = omega (arith, h.small) in grind (arith, nat_tests) in
    ap (λ b. b && cut_value_in_range t) number ∙ small

-- the line's numbers are in range, and its entries rise
abbrev pub Fits : CertLine → Type 0
Fits l = (is_in_range l ≡ true) × (is_in_order l ≡ true)

tree_fits : (trees : ℕ) (l : CertLine) → StandsInTree trees l → Fits l
tree_fits zero l h = subst Fits (sym h) (refl, refl)
tree_fits (suc k) l h =
    ⊎_elim
    (λ s. subst Fits (sym s.is) (cut_fits s.quantity s.cut s.writable, refl))
    (λ s. subst Fits (sym s.is) (multipliers_fit s.mult s.writable, rises-IsRising s.mult.entries s.writable.proper.rising))
    h

fits : (p : Place) (l : CertLine) → Stands p l → Fits l
fits place.Header l h = subst Fits (sym h) (refl, refl)
fits place.Verdict l h = subst Fits (sym h.is) (verdict_fits h.verdict h.ranges, refl)
fits (place.Root has) l h = subst Fits (sym h.is) (multipliers_fit h.root h.writable, rises-IsRising h.root.entries h.writable.proper.rising)
fits (place.Point has) l h = subst Fits (sym h.is) (point_fits h.point h.entries, point_in_order h.point h.entries)
fits (place.Nodes trees) l h = tree_fits trees l h

-- ---- neither a space nor a line feed stands in a word
record IsClean (word : List ℕ) : Type 0 where
  space : IsFree 32 word
  feed : IsFree 10 word

abbrev AllClean : List (List ℕ) → Type 0
AllClean [] = Unit {0}
AllClean (w ∷ ws) = IsClean w × AllClean ws

clean_by : (w : List ℕ) → list_all (λ b. not (b == 32)) w ≡ true → list_all (λ b. not (b == 10)) w ≡ true → IsClean w
clean_by w space feed = record { space = free_by 32 w space; feed = free_by 10 w feed }

clean_decimal : (n : ℕ) → n < 10 ^ 64 → IsClean (decimal n)
clean_decimal n small = record { space = free_decimal 32 n (inl (omega arith)) small; feed = free_decimal 10 n (inl (omega arith)) small }

clean_signed : (z : ℤ) → unsigned_abs z < 10 ^ 64 → IsClean (signed_decimal z)
clean_signed z small = record { space = free_signed 32 z (inl (omega arith)) small; feed = free_signed 10 z (inl (omega arith)) small }

clean_list : (es : List (ℕ × ℤ)) → All IsSpelled es → AllClean (map entry_text es)
clean_list [] h = tt
clean_list (e ∷ es) h =
    let first = All-head IsSpelled e es h in
    (record { space = free_entry 32 e (omega arith) first; feed = free_entry 10 e (omega arith) first }, clean_list es (All-tail IsSpelled e es h))

clean_multipliers : (m : Multipliers) → AreWritable m → AllClean (multipliers_words m)
clean_multipliers m h =
    let s = rows_spelled m h in
    (clean_signed m.q s.0, (clean_decimal (length m.entries) s.1, clean_list m.entries s.2))

objective_small : (z : ℤ) → IsInRange z → unsigned_abs z < 10 ^ 64
objective_small z h = omega (arith, h.small)

clean_verdict : (v : Verdict) → HasRanges v → AllClean (verdict_words v)
clean_verdict (verdict.Plan o b) h = (clean_by (codes "plan") refl refl, (clean_signed o (objective_small o h.0), (clean_signed b (objective_small b h.1), tt)))
clean_verdict verdict.NoPlan h = (clean_by (codes "no-plan") refl refl, tt)
clean_verdict (verdict.Unfinished b None) h = (clean_by (codes "unfinished") refl refl, (clean_signed b (objective_small b h), (clean_by (codes "none") refl refl, tt)))
clean_verdict (verdict.Unfinished b (Some z)) h = (clean_by (codes "unfinished") refl refl, (clean_signed b (objective_small b h.0), (clean_signed z (objective_small z h.1), tt)))

clean_point : (point : Option (List (ℕ × ℤ))) → HasEntries point → AllClean (point_words point)
clean_point None h = (clean_by (codes "none") refl refl, tt)
clean_point (Some es) h = let s = values_spelled es h in (clean_decimal (length es) s.0, clean_list es s.1)

-- the words of a line, of which there is one
abbrev HasWords : CertLine → Type 0
HasWords l = AllClean (words_of l) × (0 < length (words_of l))

verdict_has : (v : Verdict) → HasRanges v → HasWords (line.Verdict v)
verdict_has v h = (clean_verdict v h, some v)
  where
    some : (v : Verdict) → 0 < length (verdict_words v)
    some (verdict.Plan o b) = omega arith
    some verdict.NoPlan = omega arith
    some (verdict.Unfinished b best) = omega arith

tree_has : (trees : ℕ) (l : CertLine) → StandsInTree trees l → HasWords l
tree_has zero l h = subst HasWords (sym h) ((clean_by (codes "end") refl refl, tt), omega arith)
tree_has (suc k) l h =
    ⊎_elim
    (λ s. let c = cut_small s.quantity s.cut s.writable in
    subst HasWords (sym s.is) ((clean_by (codes "split") refl refl, (clean_decimal s.quantity c.0, (clean_signed s.cut c.1, tt))), omega arith))
    (λ s. subst HasWords (sym s.is) ((clean_by (codes "leaf") refl refl, clean_multipliers s.mult s.writable), omega arith))
    h

has_words : (p : Place) (l : CertLine) → Stands p l → HasWords l
has_words place.Header l h = subst HasWords (sym h) ((clean_by (codes "optimus-certificate") refl refl, (clean_by (codes "1") refl refl, tt)), omega arith)
has_words place.Verdict l h = subst HasWords (sym h.is) (verdict_has h.verdict h.ranges)
has_words (place.Root has) l h = subst HasWords (sym h.is) ((clean_by (codes "root") refl refl, clean_multipliers h.root h.writable), omega arith)
has_words (place.Point has) l h = subst HasWords (sym h.is) ((clean_by (codes "point") refl refl, clean_point h.point h.entries), omega arith)
has_words (place.Nodes trees) l h = tree_has trees l h

free_words : (ws : List (List ℕ)) → AllClean ws → AllFree 32 ws
free_words [] h = tt
free_words (w ∷ ws) h = (h.0.space, free_words ws h.1)

free_join : (ws : List (List ℕ)) → AllClean ws → IsFree 10 (join_with_byte 32 ws)
free_join [] h = All-nil (λ b. (b == 10) ≡ false)
free_join (w ∷ []) h = h.0.feed
free_join (w ∷ v ∷ ws) h =
    All-append (λ b. (b == 10) ≡ false) w (32 ∷ join_with_byte 32 (v ∷ ws)) h.0.feed
    (All-cons (λ b. (b == 10) ≡ false) 32 (join_with_byte 32 (v ∷ ws)) refl (free_join (v ∷ ws) h.1))

-- no line feed stands in the text of a line
pub line_free : (p : Place) (l : CertLine) → Stands p l → IsFree 10 (line_text l)
line_free p l h = free_join (words_of l) (has_words p l h).0

-- a line that stands at a place is read from its text
pub line_again : (p : Place) (n : ℕ) (l : CertLine) → Stands p l → line_at p n (line_text l) ≡ Ok l
line_again p n l h =
    let w = has_words p l h in
    let f = fits p l h in
    ap (λ ws. ok_or (form p ws) (fault.BadLine n) >>= judged n) (pieces-join 32 (words_of l) w.1 (free_words (words_of l) w.0))
    ∙ ap (λ o. ok_or o (fault.BadLine n) >>= judged n) (words_again p l h)
    ∙ ap (λ b. cond (not b) (Err (fault.Range n)) (cond (not (is_in_order l)) (Err (fault.Order n)) (Ok l))) f.0
    ∙ ap (λ b. cond (not b) (Err (fault.Order n)) (Ok l)) f.1
