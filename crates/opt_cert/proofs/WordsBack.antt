-- Words of a line from which what they say is got back, and the words of what was said.
use Rattle.std.proofs.Common.{◌≡◌, ℕ, zero, suc, ◌+◌, ◌-◌, ◌^◌, ◌<◌, ◌≤◌, ◌==◌, Bool, true, false, ◌&&◌, not, cond, List, [], ◌∷◌, ◌++◌, map, length, get_or, Option, Some, None, ℤ, pos, ◌≤ℤ◌, ◌≢◌, unsigned_abs, All, ◌⊎◌, ⊎_elim, inl, inr, codes, refl, sym, ap, ◌∙◌, subst, arith}
use Rattle.std.specs.List.{slice_split, join_with_byte, list_all}
use Rattle.std.specs.Option.{option_map, option_and_then}
use Rattle.std.specs.Fmt.{decimal, signed_decimal}
use Rattle.std.proofs.lemmas.Int.{ints}
use Rattle.std.proofs.lemmas.Bool.Decides.{nat_tests}
use Rattle.std.proofs.lemmas.List.Elements.{All-head, All-tail, All-nil, All-cons, All-append}
use Rattle.std.proofs.lemmas.List.Splits.{slice_split_none, slice_split_at}
use Rattle.opt_sums.specs.Entries.{IsRising}
use Rattle.opt_bound.specs.declared.limits.TheConstants.{MULTIPLIER_LIMIT}
use Rattle.opt_bound.specs.Multipliers.{Multipliers}
use Rattle.opt_tree.specs.Certificates.{AreWritable, AreEntries}
use Rattle.opt_cert.specs.Numbers.{pieces, numeral, signed_numeral, plain_numeral}
use Rattle.opt_cert.specs.Forms.{both, two, entry_form, entries_form, is_count, counted_form, multipliers, multipliers_form}
use Rattle.opt_cert.specs.Texts.{entry_text, entries_words, multipliers_words}
use Rattle.opt_cert.proofs.DecimalLemmas.{IsFree, numeral_decimal, decimal_numeral, plain_signed, signed_plain, signed_signed, signed_back, free_decimal, free_signed}
use Rattle.opt_cert.proofs.RangeLemmas.{both_some, then_some}
use Rattle.opt_cert.proofs.WordLemmas.{join-pieces, two_back, only_by}

-- ---- numbers of a size that is spelled in one way
-- the number and the size of the value have at most 64 digits
pub record IsSpelled (e : ℕ × ℤ) : Type 0 where
  pub number : e.0 < 10 ^ 64
  pub value : unsigned_abs e.1 < 10 ^ 64

-- the value is read as it is written
abbrev pub Spells : (List ℕ → Option ℤ) → ℤ → Type 0
Spells value z = value (signed_decimal z) ≡ Some z

-- what is read is written so
abbrev pub SpellsBack : (List ℕ → Option ℤ) → Type 0
SpellsBack value = (word : List ℕ) (z : ℤ) → value word ≡ Some z → unsigned_abs z < 10 ^ 64 → signed_decimal z ≡ word

-- ---- there are few entries, since their numbers rise
at_least : (es : List (ℕ × ℤ)) → IsRising es → (k : ℕ) (d : ℕ × ℤ) → k < length es → k ≤ (get_or es k d).0
at_least es rising zero d l = omega arith
at_least es rising (suc k) d l =
    let low = at_least es rising k d (omega (arith, l)) in
    let more = rising k (suc k) d (omega arith) l in
    omega (arith, low, more)

pub few_entries : (es : List (ℕ × ℤ)) → IsRising es → All (λ e. e.0 < 2 ^ 32) es → length es < 10 ^ 64
few_entries [] rising small = omega arith
few_entries (e ∷ es) rising small =
    let last : length es < length (e ∷ es) = omega arith in
    let low = at_least (e ∷ es) rising (length es) e last in
    let high = small (length es) e last in
    omega (arith, low, high)

-- ---- from entries to their words
module _ (value : List ℕ → Option ℤ) where
  entry_halves : (e : ℕ × ℤ) → IsSpelled e → pieces 58 (entry_text e) ≡ decimal e.0 ∷ signed_decimal e.1 ∷ []
  entry_halves e h =
      slice_split_at (λ b. b == 58) (decimal e.0) 58 (signed_decimal e.1) (free_decimal 58 e.0 (inr (omega arith)) h.number) refl
      ∙ ap (λ ps. decimal e.0 ∷ ps) (slice_split_none (λ b. b == 58) (signed_decimal e.1) (free_signed 58 e.1 (inr (omega arith)) h.value))

  entry_again : (e : ℕ × ℤ) → IsSpelled e → Spells value e.1 → entry_form value (entry_text e) ≡ Some e
  entry_again e h spelled =
      ap (λ ps. option_and_then (λ p. both (λ n v. (n, v)) (numeral p.0) (value p.1)) (two ps)) (entry_halves e h)
      ∙ ap (λ o. both (λ n v. (n, v)) o (value (signed_decimal e.1))) (numeral_decimal e.0 h.number)
      ∙ ap (both (λ n v. (n, v)) (Some e.0)) spelled

  entries_again : (es : List (ℕ × ℤ)) → All IsSpelled es → All (λ e. Spells value e.1) es → entries_form value (map entry_text es) ≡ Some es
  entries_again [] h spelled = refl
  entries_again (e ∷ es) h spelled =
      ap (λ o. both (λ d ds. d ∷ ds) o (entries_form value (map entry_text es))) (entry_again e (All-head IsSpelled e es h) (All-head (λ d. Spells value d.1) e es spelled))
      ∙ ap (both (λ d ds. d ∷ ds) (Some e)) (entries_again es (All-tail IsSpelled e es h) (All-tail (λ d. Spells value d.1) e es spelled))

  same_count : (n : ℕ) → (n == n) ≡ true
  same_count n = grind (arith, nat_tests)

  -- entries are got back from their count and their words
  pub counted_again : (es : List (ℕ × ℤ)) → length es < 10 ^ 64 → All IsSpelled es → All (λ e. Spells value e.1) es → counted_form value (entries_words es) ≡ Some es
  counted_again es few h spelled =
      ap (option_and_then (λ xs. cond (is_count (numeral (decimal (length es))) xs) (Some xs) None)) (entries_again es h spelled)
      ∙ ap (λ o. cond (is_count o es) (Some es) None) (numeral_decimal (length es) few)
      ∙ ap (λ b. cond b (Some es) None) (same_count (length es))

  -- ---- from words to entries
  entry_back : SpellsBack value → (word : List ℕ) (e : ℕ × ℤ) → entry_form value word ≡ Some e → IsSpelled e → entry_text e ≡ word
  entry_back back word e h spelled =
      let t = then_some (λ p. both (λ n v. (n, v)) (numeral p.0) (value p.1)) (two (pieces 58 word)) e h in
      let b = both_some (λ n v. (n, v)) (numeral t.0.0) (value t.0.1) e t.2 in
      let number : e.0 ≡ b.0 = ap (λ p. p.0) b.4 in
      let worth : e.1 ≡ b.1 = ap (λ p. p.1) b.4 in
      let first : decimal e.0 ≡ t.0.0 = decimal_numeral t.0.0 e.0 (b.2 ∙ ap Some (sym number)) spelled.number in
      let second : signed_decimal e.1 ≡ t.0.1 = back t.0.1 e.1 (b.3 ∙ ap Some (sym worth)) spelled.value in
      ap (λ xs. xs ++ 58 ∷ signed_decimal e.1) first
      ∙ ap (λ xs. t.0.0 ++ 58 ∷ xs) second
      ∙ ap (join_with_byte 58) (two_back (pieces 58 word) t.0 t.1)
      ∙ join-pieces 58 word

  entries_back : SpellsBack value → (words : List (List ℕ)) (es : List (ℕ × ℤ)) → entries_form value words ≡ Some es → All IsSpelled es → map entry_text es ≡ words
  entries_back back [] es h spelled = let same : es ≡ [] = cc in ap (map entry_text) same
  entries_back back (word ∷ words) es h spelled =
      let b = both_some (λ d ds. d ∷ ds) (entry_form value word) (entries_form value words) es h in
      let all : All IsSpelled (b.0 ∷ b.1) = subst (All IsSpelled) b.4 spelled in
      ap (map entry_text) b.4
      ∙ ap (λ w. w ∷ map entry_text b.1) (entry_back back word b.0 b.2 (All-head IsSpelled b.0 b.1 all))
      ∙ ap (λ ws. word ∷ ws) (entries_back back words b.1 b.3 (All-tail IsSpelled b.0 b.1 all))

  count_is : (o : Option ℕ) (es : List (ℕ × ℤ)) → is_count o es ≡ true → o ≡ Some (length es)
  count_is None es h = cc
  count_is (Some n) es h = let same : n ≡ length es = grind (arith, nat_tests) in ap Some same

  -- words from which entries are read are the words of these
  pub counted_back : SpellsBack value → (words : List (List ℕ)) (es : List (ℕ × ℤ)) → counted_form value words ≡ Some es → length es < 10 ^ 64 → All IsSpelled es → entries_words es ≡ words
  counted_back back [] es h few spelled = cc
  counted_back back (count ∷ words) es h few spelled =
      let t = then_some (λ xs. cond (is_count (numeral count) xs) (Some xs) None) (entries_form value words) es h in
      let c = only_by (is_count (numeral count) t.0) (Some t.0) es t.2 in
      let same : t.0 ≡ es = let e = c.1 in cc in
      let number : numeral count ≡ Some (length es) = count_is (numeral count) es (sym (ap (is_count (numeral count)) same) ∙ c.0) in
      ap (λ w. w ∷ map entry_text es) (decimal_numeral count (length es) number few)
      ∙ ap (λ ws. count ∷ ws) (entries_back back words es (t.1 ∙ ap Some same) spelled)

-- ---- multipliers
spelled_rows : (m : Multipliers) → AreWritable m → All IsSpelled m.entries
spelled_rows m h = λ k d l. record {
  number = let small = h.rows k d l in omega (arith, small);
  value = let small = h.proper.small k d l in omega (arith, small);
}

q_small : (m : Multipliers) → AreWritable m → unsigned_abs m.q < 10 ^ 64
q_small m h = omega (arith, h.proper.q_small)

few_rows : (m : Multipliers) → AreWritable m → length m.entries < 10 ^ 64
few_rows m h = few_entries m.entries h.proper.rising h.rows

pub multipliers_again : (m : Multipliers) → AreWritable m → multipliers_form (multipliers_words m) ≡ Some m
multipliers_again m h =
    ap (λ o. both multipliers o (counted_form signed_numeral (entries_words m.entries))) (plain_signed m.q h.proper.q_from_zero (q_small m h))
    ∙ ap (both multipliers (Some m.q)) (counted_again signed_numeral m.entries (few_rows m h) (spelled_rows m h) (λ k d l. signed_signed (get_or m.entries k d).1 (spelled_rows m h k d l).value))

pub multipliers_back : (words : List (List ℕ)) (m : Multipliers) → multipliers_form words ≡ Some m → AreWritable m → multipliers_words m ≡ words
multipliers_back [] m h writable = cc
multipliers_back (q ∷ words) m h writable =
    let b = both_some multipliers (plain_numeral q) (counted_form signed_numeral words) m h in
    let first : m.q ≡ b.0 = ap (λ (x : Multipliers). x.q) b.4 in
    let list : m.entries ≡ b.1 = ap (λ (x : Multipliers). x.entries) b.4 in
    ap (λ w. w ∷ entries_words m.entries) (signed_plain q m.q (b.2 ∙ ap Some (sym first)) (q_small m writable))
    ∙ ap (λ ws. q ∷ ws) (counted_back signed_numeral signed_back words m.entries (b.3 ∙ ap Some (sym list)) (few_rows m writable) (spelled_rows m writable))

-- ---- the entries of a point
spelled_values : (es : List (ℕ × ℤ)) → AreEntries es → All IsSpelled es
spelled_values es h = λ k d l. record {
  number = let small = h.quantities k d l in omega (arith, small);
  value = let small = h.small k d l in omega (arith, small);
}

value_spelled : (e : ℕ × ℤ) → pos 1 ≤ℤ e.1 → IsSpelled e → Spells plain_numeral e.1
value_spelled e from h = let zero_on : pos 0 ≤ℤ e.1 = omega (arith, ints, from) in plain_signed e.1 zero_on h.value

pub point_entries_again : (es : List (ℕ × ℤ)) → AreEntries es → counted_form plain_numeral (entries_words es) ≡ Some es
point_entries_again es h =
    counted_again plain_numeral es (few_entries es h.rising h.quantities) (spelled_values es h) (λ k d l. value_spelled (get_or es k d) (h.from_one k d l) (spelled_values es h k d l))

pub point_entries_back : (words : List (List ℕ)) (es : List (ℕ × ℤ)) → counted_form plain_numeral words ≡ Some es → AreEntries es → entries_words es ≡ words
point_entries_back words es h entries =
    counted_back plain_numeral signed_plain words es h (few_entries es entries.rising entries.quantities) (spelled_values es entries)

-- ---- no separator stands in an entry
pub free_entry : (c : ℕ) (e : ℕ × ℤ) → c < 45 → IsSpelled e → IsFree c (entry_text e)
free_entry c e low h =
    let colon : (58 == c) ≡ false = grind (arith, nat_tests) in
    All-append (λ b. (b == c) ≡ false) (decimal e.0) (58 ∷ signed_decimal e.1)
    (free_decimal c e.0 (inl (omega (arith, low))) h.number)
    (All-cons (λ b. (b == c) ≡ false) 58 (signed_decimal e.1) colon (free_signed c e.1 (inl low) h.value))

pub rows_spelled : (m : Multipliers) → AreWritable m → (unsigned_abs m.q < 10 ^ 64) × (length m.entries < 10 ^ 64) × All IsSpelled m.entries
rows_spelled m h = (q_small m h, few_rows m h, spelled_rows m h)

pub values_spelled : (es : List (ℕ × ℤ)) → AreEntries es → (length es < 10 ^ 64) × All IsSpelled es
values_spelled es h = (few_entries es h.rising h.quantities, spelled_values es h)
