-- The verdict's line, both ways.
use Rattle.std.proofs.Common.{◌≡◌, ◌≢◌, ℕ, ◌+◌, ◌^◌, ◌<◌, ◌≤◌, nat_le, Bool, true, false, ◌&&◌, not, cond, List, [], ◌∷◌, ◌++◌, length, Option, Some, None, Result, Ok, Err, IfSome, IfNone, ℤ, pos, ◌≤ℤ◌, unsigned_abs, All, ◌⊎◌, ⊎_elim, inl, inr, codes, refl, sym, ap, ◌∙◌, subst, lit<, arith}
use Rattle.std.specs.List.{join_with_byte}
use Rattle.std.specs.Str.{bytes_eq, all_ascii_digits}
use Rattle.std.specs.Option.{option_map, option_and_then}
use Rattle.std.specs.Result.{result_ok}
use Rattle.std.specs.Fmt.{decimal, signed_decimal}
use Rattle.std.proofs.lemmas.Int.{ints}
use Rattle.std.proofs.lemmas.Bool.Decides.{nat_tests}
use Rattle.std.proofs.lemmas.List.Elements.{All-nil, All-cons}
use Rattle.opt_base.specs.declared.verdict.Verdict.{Verdict}
use Rattle.opt_base.specs.declared.verdict.Verdict.TheVariants as verdict
use Rattle.opt_tree.specs.Certificates.{IsInRange, HasRanges}
use Rattle.opt_cert.specs.declared.limits.TheConstants.{OBJECTIVE_LIMIT}
use Rattle.opt_cert.specs.declared.line_fault.LineFault.{LineFault}
use Rattle.opt_cert.specs.declared.line_fault.LineFault.TheVariants.{Range as LineRange}
use Rattle.opt_cert.specs.Numbers.{pieces, numeral, plain_numeral}
use Rattle.opt_cert.specs.Forms.{both, one, two, best_form, numbers_form, no_plan_form, verdict_form}
use Rattle.opt_cert.specs.Ranges.{objective_in_range, best_in_range, verdict_in_range}
use Rattle.opt_cert.specs.Judging.{ranged}
use Rattle.opt_cert.specs.Texts.{best_word, verdict_words, verdict_text}
use Rattle.opt_cert.proofs.JudgeLemmas.{ranged_ok, mapped_some}
use Rattle.opt_cert.proofs.RangeLemmas.{and_true, both_some, then_some}
use Rattle.opt_cert.proofs.StandLemmas.{verdict_ranges}
use Rattle.opt_cert.proofs.DecimalLemmas.{IsFree, signed_digits, plain_signed, signed_plain, free_signed}
use Rattle.opt_cert.proofs.WordLemmas.{AllFree, pieces-join, join-pieces, same_word, digits_not_none, chosen_by, only_by, two_back, free_by}

-- ---- from a verdict to its words
small : (z : ℤ) → IsInRange z → unsigned_abs z < 10 ^ 64
small z h = omega (arith, h.small)

fits : (z : ℤ) → IsInRange z → objective_in_range z ≡ true
fits z h = let most : unsigned_abs z ≤ OBJECTIVE_LIMIT = omega (arith, h.small) in grind (arith, nat_tests)

plain : (z : ℤ) → IsInRange z → plain_numeral (signed_decimal z) ≡ Some z
plain z h = plain_signed z h.from_zero (small z h)

best_again : (best : Option ℤ) → ((z : ℤ) → best ≡ Some z → IsInRange z) → best_form (best_word best) ≡ Some best
best_again None h = refl
best_again (Some z) h =
    let r = h z refl in
    ap (λ b. cond b (Some None) (option_map Some (plain_numeral (signed_decimal z)))) (digits_not_none (signed_decimal z) (signed_digits z r.from_zero (small z r)))
    ∙ ap (option_map Some) (plain z r)

pub verdict_again : (v : Verdict) → HasRanges v → verdict_form (verdict_words v) ≡ Some v
verdict_again (verdict.Plan o b) h =
    ap (λ x. both verdict.Plan x (plain_numeral (signed_decimal b))) (plain o h.0) ∙ ap (both verdict.Plan (Some o)) (plain b h.1)
verdict_again verdict.NoPlan h = refl
verdict_again (verdict.Unfinished b None) h =
    ap (λ x. both verdict.Unfinished x (Some None)) (plain b h)
verdict_again (verdict.Unfinished b (Some z)) h =
    ap (λ x. both verdict.Unfinished x (best_form (signed_decimal z))) (plain b h.0)
    ∙ ap (both verdict.Unfinished (Some b)) (best_again (Some z) (λ y e. let same : z ≡ y = cc in subst IsInRange same h.1))

pub verdict_fits : (v : Verdict) → HasRanges v → verdict_in_range v ≡ true
verdict_fits (verdict.Plan o b) h = ap (λ x. x && objective_in_range b) (fits o h.0) ∙ fits b h.1
verdict_fits verdict.NoPlan h = refl
verdict_fits (verdict.Unfinished b None) h = ap (λ x. x && true) (fits b h)
verdict_fits (verdict.Unfinished b (Some z)) h = ap (λ x. x && objective_in_range z) (fits b h.0) ∙ fits z h.1

-- ---- no separator stands in a word
free_best : (best : Option ℤ) → ((z : ℤ) → best ≡ Some z → IsInRange z) → IsFree 32 (best_word best)
free_best None h = free_by 32 (codes "none") refl
free_best (Some z) h = free_signed 32 z (inl (lit< tt)) (small z (h z refl))

free_verdict : (v : Verdict) → HasRanges v → AllFree 32 (verdict_words v)
free_verdict (verdict.Plan o b) h = (free_by 32 (codes "plan") refl, (free_signed 32 o (inl (lit< tt)) (small o h.0), (free_signed 32 b (inl (lit< tt)) (small b h.1), tt)))
free_verdict verdict.NoPlan h = (free_by 32 (codes "no-plan") refl, tt)
free_verdict (verdict.Unfinished b None) h = (free_by 32 (codes "unfinished") refl, (free_signed 32 b (inl (lit< tt)) (small b h), (free_best None (λ z e. cc), tt)))
free_verdict (verdict.Unfinished b (Some z)) h = (free_by 32 (codes "unfinished") refl, (free_signed 32 b (inl (lit< tt)) (small b h.0), (free_signed 32 z (inl (lit< tt)) (small z h.1), tt)))

some_words : (v : Verdict) → 0 < length (verdict_words v)
some_words (verdict.Plan o b) = omega arith
some_words verdict.NoPlan = omega arith
some_words (verdict.Unfinished b best) = omega arith

-- what is written of a verdict is read as that verdict
pub verdict_read : (v : Verdict) (bytes : List ℕ) → HasRanges v → verdict_text v ≡ bytes → ranged verdict_in_range (verdict_form (pieces 32 bytes)) ≡ Ok v
verdict_read v bytes h e =
    ap (λ xs. ranged verdict_in_range (verdict_form (pieces 32 xs))) (sym e)
    ∙ ap (λ ws. ranged verdict_in_range (verdict_form ws)) (pieces-join 32 (verdict_words v) (some_words v) (free_verdict v h))
    ∙ ap (ranged verdict_in_range) (verdict_again v h)
    ∙ ap (λ b. cond b (Ok v) (Err LineRange)) (verdict_fits v h)

-- ---- from words to the verdict
objective_small : (z : ℤ) → objective_in_range z ≡ true → unsigned_abs z < 10 ^ 64
objective_small z h = let most : unsigned_abs z ≤ OBJECTIVE_LIMIT = grind (arith, nat_tests) in omega (arith, most)

best_back : (word : List ℕ) (best : Option ℤ) → best_form word ≡ Some best → best_in_range best ≡ true → best_word best ≡ word
best_back word None h fits =
    ⊎_elim
    (λ e. sym (same_word word (codes "none") e.0))
    (λ e. let t = mapped_some Some (plain_numeral word) None e.1 in cc)
    (chosen_by (bytes_eq word (codes "none")) (Some None) (option_map Some (plain_numeral word)) None h)
best_back word (Some z) h fits =
    ⊎_elim
    (λ e. cc)
    (λ e. let t = mapped_some Some (plain_numeral word) (Some z) e.1 in
    let same : z ≡ t.0 = cc in
    signed_plain word z (t.1 ∙ ap Some (sym same)) (objective_small z fits))
    (chosen_by (bytes_eq word (codes "none")) (Some None) (option_map Some (plain_numeral word)) (Some z) h)

plan_back : (word : List ℕ) (ns : List ℕ × List ℕ) (v : Verdict) → bytes_eq word (codes "plan") ≡ true → both verdict.Plan (plain_numeral ns.0) (plain_numeral ns.1) ≡ Some v → verdict_in_range v ≡ true → verdict_words v ≡ word ∷ ns.0 ∷ ns.1 ∷ []
plan_back word ns v w h fits =
    let b = both_some verdict.Plan (plain_numeral ns.0) (plain_numeral ns.1) v h in
    let t = and_true (objective_in_range b.0) (objective_in_range b.1) (sym (ap verdict_in_range b.4) ∙ fits) in
    ap verdict_words b.4
    ∙ ap (λ x. x ∷ signed_decimal b.0 ∷ signed_decimal b.1 ∷ []) (sym (same_word word (codes "plan") w))
    ∙ ap (λ x. word ∷ x ∷ signed_decimal b.1 ∷ []) (signed_plain ns.0 b.0 b.2 (objective_small b.0 t.0))
    ∙ ap (λ x. word ∷ ns.0 ∷ x ∷ []) (signed_plain ns.1 b.1 b.3 (objective_small b.1 t.1))

unfinished_back : (word : List ℕ) (ns : List ℕ × List ℕ) (v : Verdict) → bytes_eq word (codes "unfinished") ≡ true → both verdict.Unfinished (plain_numeral ns.0) (best_form ns.1) ≡ Some v → verdict_in_range v ≡ true → verdict_words v ≡ word ∷ ns.0 ∷ ns.1 ∷ []
unfinished_back word ns v w h fits =
    let b = both_some verdict.Unfinished (plain_numeral ns.0) (best_form ns.1) v h in
    let t = and_true (objective_in_range b.0) (best_in_range b.1) (sym (ap verdict_in_range b.4) ∙ fits) in
    ap verdict_words b.4
    ∙ ap (λ x. x ∷ signed_decimal b.0 ∷ best_word b.1 ∷ []) (sym (same_word word (codes "unfinished") w))
    ∙ ap (λ x. word ∷ x ∷ best_word b.1 ∷ []) (signed_plain ns.0 b.0 b.2 (objective_small b.0 t.0))
    ∙ ap (λ x. word ∷ ns.0 ∷ x ∷ []) (best_back ns.1 b.1 b.3 t.1)

numbers_back : (word : List ℕ) (ns : List ℕ × List ℕ) (v : Verdict) → numbers_form word ns ≡ Some v → verdict_in_range v ≡ true → verdict_words v ≡ word ∷ ns.0 ∷ ns.1 ∷ []
numbers_back word ns v h fits =
    let found = both verdict.Unfinished (plain_numeral ns.0) (best_form ns.1) in
    ⊎_elim
    (λ e. plan_back word ns v e.0 e.1 fits)
    (λ e. let t = only_by (bytes_eq word (codes "unfinished")) found v e.1 in unfinished_back word ns v t.0 t.1 fits)
    (chosen_by (bytes_eq word (codes "plan")) (both verdict.Plan (plain_numeral ns.0) (plain_numeral ns.1)) (cond (bytes_eq word (codes "unfinished")) found None) v h)

no_plan_back : (word : List ℕ) (words : List (List ℕ)) (v : Verdict) → bytes_eq word (codes "no-plan") ≡ true → no_plan_form words ≡ Some v → verdict_words v ≡ word ∷ words
no_plan_back word [] v w h =
    let same : v ≡ verdict.NoPlan = cc in
    ap verdict_words same ∙ ap (λ x. x ∷ []) (sym (same_word word (codes "no-plan") w))
no_plan_back word (more ∷ words) v w h = cc

pub verdict_back : (words : List (List ℕ)) (v : Verdict) → verdict_form words ≡ Some v → verdict_in_range v ≡ true → verdict_words v ≡ words
verdict_back [] v h fits = cc
verdict_back (word ∷ words) v h fits =
    ⊎_elim
    (λ e. no_plan_back word words v e.0 e.1)
    (λ e. let t = then_some (numbers_form word) (two words) v e.1 in
    numbers_back word t.0 v t.2 fits ∙ ap (λ ws. word ∷ ws) (two_back words t.0 t.1))
    (chosen_by (bytes_eq word (codes "no-plan")) (no_plan_form words) (option_and_then (numbers_form word) (two words)) v h)

-- ---- what a call answers
ok_some : (r : Result Verdict LineFault) (v : Verdict) → Some v ≡ result_ok r → r ≡ Ok v
ok_some (Ok w) v h = cc
ok_some (Err f) v h = cc

pub found_text : (o : Option Verdict) (bytes : List ℕ) → o ≡ result_ok (ranged verdict_in_range (verdict_form (pieces 32 bytes))) → IfSome o (λ v. verdict_text v ≡ bytes)
found_text None bytes h = tt
found_text (Some v) bytes h =
    let t = ranged_ok verdict_in_range (verdict_form (pieces 32 bytes)) v (ok_some (ranged verdict_in_range (verdict_form (pieces 32 bytes))) v h) in
    ap (join_with_byte 32) (verdict_back (pieces 32 bytes) v t.0 t.1) ∙ join-pieces 32 bytes

pub found_ranges : (o : Option Verdict) (bytes : List ℕ) → o ≡ result_ok (ranged verdict_in_range (verdict_form (pieces 32 bytes))) → IfSome o (λ v. HasRanges v)
found_ranges None bytes h = tt
found_ranges (Some v) bytes h =
    let t = ranged_ok verdict_in_range (verdict_form (pieces 32 bytes)) v (ok_some (ranged verdict_in_range (verdict_form (pieces 32 bytes))) v h) in
    verdict_ranges (pieces 32 bytes) v t.0 t.1

pub none_found : (o : Option Verdict) (bytes : List ℕ) → o ≡ result_ok (ranged verdict_in_range (verdict_form (pieces 32 bytes))) → IfNone o ((v : Verdict) → HasRanges v → verdict_text v ≢ bytes)
none_found (Some v) bytes h = tt
none_found None bytes h = λ v r e. let some = h ∙ ap result_ok (verdict_read v bytes r e) in cc
