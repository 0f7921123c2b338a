-- Entries of a line one by one.
use Rattle.std.proofs.Common.{◌≡◌, ℕ, suc, ◌+◌, ◌-◌, Bool, true, false, ◌&&◌, cond, eqb, min, ◌*◌, ◌^◌, ◌<◌, List, [], ◌∷◌, ◌++◌, length, Option, Some, None, Result, Ok, Err, ℤ, ◌≢◌, refl, sym, ap, ◌∙◌, ⊎_elim, subst, arith}
use mathlib.Core.List.{append_assoc, append-nil}
use Rattle.std.specs.List.{list_all}
use Rattle.std.specs.Option.{option_and_then}
use Rattle.std.proofs.lemmas.Bool.Decides.{nat_tests}
use Rattle.opt_cert.specs.declared.entries.EntryKind.{EntryKind}
use Rattle.opt_cert.specs.declared.entries.EntryKind.TheVariants.{Rows, Quantities}
use Rattle.opt_cert.specs.declared.entries.EntryList.{EntryList}
use Rattle.opt_cert.specs.declared.line_fault.LineFault.{LineFault}
use Rattle.opt_cert.specs.declared.line_fault.LineFault.TheVariants.{BadLine, Range}
use Rattle.opt_cert.specs.Numbers.{pieces, numeral}
use Rattle.opt_cert.specs.Forms.{both, two, entry_form, entries_form, is_count}
use Rattle.opt_cert.specs.Ranges.{number_in_range}
use Rattle.opt_cert.specs.Kinds.{value_form, kind_in_range, entry_in_range, list_with, list_on, list_form}
use Rattle.opt_cert.specs.Judging.{ranged, pair, LineFails}
use Rattle.opt_cert.proofs.JudgeLemmas.{pair_ranged, ranged_ok, ranged_range, ranged_bad, ranged_other}

abbrev Numbers : Type 0
Numbers = List (ℕ × ℤ)

-- ---- one entry
same_ranges : (kind : EntryKind) (o : Option (ℕ × ℤ)) → ranged (λ e. number_in_range e.0 && kind_in_range kind e.1) o ≡ ranged (entry_in_range kind) o
same_ranges Rows o = refl
same_ranges Quantities o = refl

pub entry_halved : (kind : EntryKind) (word first second : List ℕ) → two (pieces 58 word) ≡ Some (first, second) → pair (ranged number_in_range (numeral first)) (ranged (kind_in_range kind) (value_form kind second)) ≡ ranged (entry_in_range kind) (entry_form (value_form kind) word)
entry_halved kind word first second e =
    pair_ranged number_in_range (kind_in_range kind) (numeral first) (value_form kind second)
    ∙ same_ranges kind _
    ∙ ap (λ halves. ranged (entry_in_range kind) (option_and_then (λ p. both (λ n v. (n, v)) (numeral p.0) (value_form kind p.1)) halves)) (sym e)

-- ---- the list
module _ (kind : EntryKind) where
  abbrev entry : List ℕ → Option (ℕ × ℤ)
  entry word = entry_form (value_form kind) word

  abbrev list_of : List (List ℕ) → Option Numbers
  list_of words = entries_form (value_form kind) words

  abbrev concluded : Bool → Bool → Numbers → Result Numbers LineFault
  concluded counted fits entries = cond counted (cond fits (Ok entries) (Err Range)) (Err BadLine)

  none_left : (list : EntryList) (o : Option (ℕ × ℤ)) (p : Option Numbers) → list.left ≡ 0 → list_with kind list (both (λ e es. e ∷ es) o p) ≡ Err BadLine
  none_left list None p h = refl
  none_left list (Some e) None h = refl
  none_left list (Some e) (Some es) h =
      let more : eqb list.left (length (e ∷ es)) ≡ false = grind (arith, nat_tests) in
      ap (λ b. concluded b (list.in_range && list_all (entry_in_range kind) (e ∷ es)) (list.entries.items ++ e ∷ es)) more

  -- a word too many
  pub list_on-none_left : (list : EntryList) (word : List ℕ) (words : List (List ℕ)) → list.left ≡ 0 → list_on kind list (word ∷ words) ≡ Err BadLine
  list_on-none_left list word words h = none_left list (entry word) (list_of words) h

  -- a word that is no entry
  pub list_on-bad : (list : EntryList) (word : List ℕ) (words : List (List ℕ)) → entry word ≡ None → list_on kind list (word ∷ words) ≡ Err BadLine
  list_on-bad list word words h = ap (λ o. list_with kind list (both (λ e es. e ∷ es) o (list_of words))) h

  one_fewer : (m n : ℕ) → m ≢ 0 → eqb m (suc n) ≡ eqb (m - 1) n
  one_fewer m n h = grind (arith, nat_tests)

  add_some : (list new : EntryList) (e : ℕ × ℤ) (p : Option Numbers) → list.left ≢ 0 → new.left ≡ list.left - 1 → new.in_range ≡ list.in_range → new.entries.items ≡ list.entries.items ++ e ∷ [] → entry_in_range kind e ≡ true → list_with kind list (both (λ d es. d ∷ es) (Some e) p) ≡ list_with kind new p
  add_some list new e None some left in_range items fits = refl
  add_some list new e (Some es) some left in_range items fits =
      let count : eqb list.left (suc (length es)) ≡ eqb new.left (length es) = one_fewer list.left (length es) some ∙ ap (λ n. eqb n (length es)) (sym left) in
      let all : (list.in_range && (entry_in_range kind e && list_all (entry_in_range kind) es)) ≡ (new.in_range && list_all (entry_in_range kind) es) =
      ap (λ b. list.in_range && (b && list_all (entry_in_range kind) es)) fits ∙ ap (λ b. b && list_all (entry_in_range kind) es) (sym in_range) in
      let whole : list.entries.items ++ e ∷ es ≡ new.entries.items ++ es =
      sym (append_assoc list.entries.items (e ∷ []) es) ∙ ap (λ xs. xs ++ es) (sym items) in
      ap (λ b. concluded b (list.in_range && (entry_in_range kind e && list_all (entry_in_range kind) es)) (list.entries.items ++ e ∷ es)) count
      ∙ ap (λ b. concluded (eqb new.left (length es)) b (list.entries.items ++ e ∷ es)) all
      ∙ ap (concluded (eqb new.left (length es)) (new.in_range && list_all (entry_in_range kind) es)) whole

  -- an entry in range is added
  pub list_on-added : (list new : EntryList) (word : List ℕ) (words : List (List ℕ)) (e : ℕ × ℤ) → list.left ≢ 0 → new.left ≡ list.left - 1 → new.in_range ≡ list.in_range → new.entries.items ≡ list.entries.items ++ e ∷ [] → ranged (entry_in_range kind) (entry word) ≡ Ok e → list_on kind list (word ∷ words) ≡ list_on kind new words
  list_on-added list new word words e some left in_range items read =
      let t = ranged_ok (entry_in_range kind) (entry word) e read in
      ap (λ o. list_with kind list (both (λ d es. d ∷ es) o (list_of words))) t.0
      ∙ add_some list new e (list_of words) some left in_range items t.1

  never : (b c : Bool) → (b && (false && c)) ≡ false
  never true c = refl
  never false c = refl

  skip_some : (list new : EntryList) (e : ℕ × ℤ) (p : Option Numbers) → list.left ≢ 0 → new.left ≡ list.left - 1 → new.in_range ≡ false → entry_in_range kind e ≡ false → list_with kind list (both (λ d es. d ∷ es) (Some e) p) ≡ list_with kind new p
  skip_some list new e None some left in_range fits = refl
  skip_some list new e (Some es) some left in_range fits =
      let count : eqb list.left (suc (length es)) ≡ eqb new.left (length es) = one_fewer list.left (length es) some ∙ ap (λ n. eqb n (length es)) (sym left) in
      let all : (list.in_range && (entry_in_range kind e && list_all (entry_in_range kind) es)) ≡ false =
      ap (λ b. list.in_range && (b && list_all (entry_in_range kind) es)) fits ∙ never list.in_range (list_all (entry_in_range kind) es) in
      ap (λ b. concluded b (list.in_range && (entry_in_range kind e && list_all (entry_in_range kind) es)) (list.entries.items ++ e ∷ es)) count
      ∙ ap (λ b. concluded (eqb new.left (length es)) b (list.entries.items ++ e ∷ es)) all
      ∙ ap (λ b. concluded (eqb new.left (length es)) (b && list_all (entry_in_range kind) es) (new.entries.items ++ es)) (sym in_range)

  -- an entry out of range is left out, and this is kept in mind
  pub list_on-skipped : (list new : EntryList) (word : List ℕ) (words : List (List ℕ)) → list.left ≢ 0 → new.left ≡ list.left - 1 → new.in_range ≡ false → ranged (entry_in_range kind) (entry word) ≡ Err Range → list_on kind list (word ∷ words) ≡ list_on kind new words
  list_on-skipped list new word words some left in_range read =
      let t = ranged_range (entry_in_range kind) (entry word) read in
      ap (λ o. list_with kind list (both (λ d es. d ∷ es) o (list_of words))) t.1
      ∙ skip_some list new t.0 (list_of words) some left in_range t.2

  -- a word out of which neither an entry nor a range's fault comes
  pub list_on-told : (list : EntryList) (word : List ℕ) (words : List (List ℕ)) (fault : LineFault) → ranged (entry_in_range kind) (entry word) ≡ Err fault → fault ≢ Range → LineFails fault (list_on kind list (word ∷ words))
  list_on-told list word words fault read other =
      ⊎_elim
      (λ e. let P : LineFault → Type 0 = λ f. LineFails f (list_on kind list (word ∷ words)) in
      subst P (sym e) (list_on-bad list word words (ranged_bad (entry_in_range kind) (entry word) (read ∙ ap Err e))))
      (λ e. absurd (other e))
      (ranged_other (entry_in_range kind) (entry word) fault read)

  -- ---- the beginning of the list
  consed_length : (o : Option (ℕ × ℤ)) (p : Option Numbers) (n : ℕ) (es : Numbers) → ((ds : Numbers) → p ≡ Some ds → length ds ≡ n) → both (λ d ds. d ∷ ds) o p ≡ Some es → length es ≡ suc n
  consed_length None p n es h e = cc
  consed_length (Some d) None n es h e = cc
  consed_length (Some d) (Some ds) n es h e =
      let same : es ≡ d ∷ ds = cc in
      ap length same ∙ ap suc (h ds refl)

  -- there is an entry for each word
  length-entries_form : (words : List (List ℕ)) (es : Numbers) → list_of words ≡ Some es → length es ≡ length words
  length-entries_form [] es e = let same : es ≡ [] = cc in ap length same
  length-entries_form (word ∷ words) es e = consed_length (entry word) (list_of words) (length words) es (length-entries_form words) e

  started : (list : EntryList) (count : Option ℕ) (n : ℕ) (p : Option Numbers) → ((es : Numbers) → p ≡ Some es → length es < 2 ^ 128 - 1) → count ≡ Some n → list.left ≡ min n (2 ^ 128 - 1) → list.in_range ≡ true → list.entries.items ≡ [] → list_with kind list p ≡ ranged (list_all (entry_in_range kind)) (option_and_then (λ entries. cond (is_count count entries) (Some entries) None) p)
  started list count n None few read left all none = refl
  started list count n (Some es) few read left all none =
      let small : length es < 2 ^ 128 - 1 = few es refl in
      let same : eqb list.left (length es) ≡ is_count count es = grind (arith, nat_tests) in
      ap (λ b. concluded (eqb list.left (length es)) (b && list_all (entry_in_range kind) es) (list.entries.items ++ es)) all
      ∙ ap (λ xs. concluded (eqb list.left (length es)) (list_all (entry_in_range kind) es) (xs ++ es)) none
      ∙ ap (λ b. concluded b (list_all (entry_in_range kind) es) es) same
      ∙ judged (is_count count es)
    where
      judged : (b : Bool) → concluded b (list_all (entry_in_range kind) es) es ≡ ranged (list_all (entry_in_range kind)) (cond b (Some es) None)
      judged true = refl
      judged false = refl

  pub list_on-start : (list : EntryList) (word : List ℕ) (n : ℕ) (words : List (List ℕ)) → length words < 2 ^ 128 - 1 → numeral word ≡ Some n → list.left ≡ min n (2 ^ 128 - 1) → list.in_range ≡ true → list.entries.items ≡ [] → list_on kind list words ≡ list_form kind (word ∷ words)
  list_on-start list word n words few read left all none =
      started list (numeral word) n (list_of words) (λ es e. omega (arith, length-entries_form words es e)) read left all none
