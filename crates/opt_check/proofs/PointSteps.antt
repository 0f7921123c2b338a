-- The steps of the loops over a point and its entries.
use Rattle.std.proofs.Common.{◌≡◌, ◌≢◌, inl, inr, ℕ, zero, suc, ◌+◌, ◌≤◌, ◌<◌, Bool, true, false, cond, nat_lt, ◌&&◌, int_le, List, [], ◌∷◌, length, take, drop, get_or, set, Option, Some, None, ℤ, pos, ◌≤ℤ◌, map, refl, ap, sym, ◌∙◌, arith, add-one, get_or-set_other, get_or-set_same}
use Rattle.std.specs.List.{range_with_len}
use Rattle.std.proofs.lemmas.Int.{ints}
use Rattle.std.proofs.lemmas.Bool.Decides.{nat_tests}
use Rattle.std.proofs.lemmas.List.{ext_get_or}
use Rattle.std.proofs.Math.Seq.{drop-cons}
use Rattle.opt_sums.specs.Sums.{at}
use Rattle.opt_sums.specs.Entries.{coef, IsRising}
use Rattle.opt_sums.proofs.EntryLemmas.{same_or_other, one_same, one_other, coef-take}
use Rattle.opt_sums.proofs.RisingLemmas.{coef-take_before}
use Rattle.opt_system.specs.Ranges.{Range, IsOrdered}
use Rattle.opt_tree.specs.Certificates.{point_of}
use Rattle.opt_tree.specs.Shown.{first_unknown, first_outside_from}
use Rattle.opt_tree.proofs.PointTrue.{length-point_of}
use Rattle.opt_check.specs.Points.{IsInside}

-- ---- a value put at a quantity
-- the value of one entry more
pub at-put : (x : List ℤ) (entries : List (ℕ × ℤ)) (i k : ℕ) (d : ℕ × ℤ) (v : ℤ) → IsRising entries → i < length entries → k < length x → v ≡ (get_or entries i d).1 → at x k ≡ coef (take i entries) k → at (set x (get_or entries i d).0 v) k ≡ coef (take (i + 1) entries) k
at-put x entries i k d v rising h inside is says =
    elim (same_or_other (get_or entries i d).0 k) [
      | inl e ↦
          let p : (get_or entries i d).0 ≡ k = e in
          omega (arith, ints, is, ap (at (set x (get_or entries i d).0 v)) p, get_or-set_same x (get_or entries i d).0 v (pos 0) (omega arith), coef-take entries i d k h, one_same (get_or entries i d).0 k (get_or entries i d).1 p, coef-take_before entries i d rising h, ap (coef (take i entries)) p)
      | inr e ↦
          let p : (get_or entries i d).0 ≢ k = e in
          let q : k ≢ (get_or entries i d).0 = λ r. p (sym r) in
          omega (arith, ints, get_or-set_other x (get_or entries i d).0 k v (pos 0) q, coef-take entries i d k h, one_other (get_or entries i d).0 k (get_or entries i d).1 p, says)
    ]

-- an entry past the last quantity changes nothing
pub at-past : (x : List ℤ) (entries : List (ℕ × ℤ)) (i k : ℕ) (d : ℕ × ℤ) → i < length entries → k < (get_or entries i d).0 → at x k ≡ coef (take i entries) k → at x k ≡ coef (take (i + 1) entries) k
at-past x entries i k d h past says =
    let p : (get_or entries i d).0 ≢ k = omega arith in
    omega (arith, ints, coef-take entries i d k h, one_other (get_or entries i d).0 k (get_or entries i d).1 p)

at-coefs : (f : ℕ → ℤ) (a n k : ℕ) → k < n → at (map f (range_with_len a n)) k ≡ f (a + k)
at-coefs f a zero k h = absurd (omega arith)
at-coefs f a (suc n) zero h = let e : a ≡ a + zero = omega arith in ap f e
at-coefs f a (suc n) (suc k) h = let e : a + 1 + k ≡ a + suc k = omega arith in at-coefs f (a + 1) n k (omega arith) ∙ ap f e

-- the list whose values are the coefficients is the point
pub is_point_of : (x : List ℤ) (n : ℕ) (entries : List (ℕ × ℤ)) → length x ≡ n → ((k : ℕ) → k < n → at x k ≡ coef entries k) → x ≡ point_of n entries
is_point_of x n entries each says =
    ext_get_or (pos 0) x (point_of n entries) (each ∙ sym (length-point_of n entries))
    (λ k h. says k (omega arith) ∙ sym (at-coefs (coef entries) 0 n k (omega arith) ∙ (let e : 0 + k ≡ k = omega arith in ap (coef entries) e)))

-- ---- the first quantity that does not exist
unknown_by : (n i : ℕ) (es : List (ℕ × ℤ)) (d : ℕ × ℤ) → i < length es → first_unknown n (drop i es) ≡ cond (nat_lt (get_or es i d).0 n) (first_unknown n (drop (suc i) es)) (Some (get_or es i d).0)
unknown_by n i es d h = ap (first_unknown n) (drop-cons es i d h)

-- past the last entry there is none
pub unknown_end : (n i : ℕ) (es : List (ℕ × ℤ)) → length es ≤ i → first_unknown n (drop i es) ≡ None
unknown_end n zero [] h = refl
unknown_end n zero (e ∷ es) h = absurd (omega arith)
unknown_end n (suc i) [] h = refl
unknown_end n (suc i) (e ∷ es) h = unknown_end n i es (omega arith)

pub unknown_later : (n i : ℕ) (es : List (ℕ × ℤ)) (d : ℕ × ℤ) → i < length es → (get_or es i d).0 < n → first_unknown n (drop i es) ≡ first_unknown n (drop (i + 1) es)
unknown_later n i es d h known =
    let test : nat_lt (get_or es i d).0 n ≡ true = grind (arith, nat_tests) in
    unknown_by n i es d h
    ∙ ap (λ t. cond t (first_unknown n (drop (suc i) es)) (Some (get_or es i d).0)) test
    ∙ rw add-one refl

pub unknown_here : (n i : ℕ) (es : List (ℕ × ℤ)) (d : ℕ × ℤ) → i < length es → n ≤ (get_or es i d).0 → first_unknown n (drop i es) ≡ Some (get_or es i d).0
unknown_here n i es d h unknown =
    let test : nat_lt (get_or es i d).0 n ≡ false = grind (arith, nat_tests) in
    unknown_by n i es d h ∙ ap (λ t. cond t (first_unknown n (drop (suc i) es)) (Some (get_or es i d).0)) test

-- ---- the first quantity out of its range
-- the values from quantity j on
abbrev pub outside_after : ℕ → Range → List ℤ → Option ℕ
outside_after j box x = first_outside_from j (drop j box.low) (drop j box.high) (drop j x)

outside_by : (j : ℕ) (box : Range) (x : List ℤ) → j < length x → length x ≡ length box.low → length x ≡ length box.high → outside_after j box x ≡ cond (int_le (at box.low j) (at x j) && int_le (at x j) (at box.high j)) (outside_after (j + 1) box x) (Some j)
outside_by j box x h lows highs =
    let l : drop j box.low ≡ at box.low j ∷ drop (suc j) box.low = drop-cons box.low j (pos 0) (omega arith) in
    let u : drop j box.high ≡ at box.high j ∷ drop (suc j) box.high = drop-cons box.high j (pos 0) (omega arith) in
    let v : drop j x ≡ at x j ∷ drop (suc j) x = drop-cons x j (pos 0) h in
    ap (λ a. first_outside_from j a (drop j box.high) (drop j x)) l
    ∙ ap (λ a. first_outside_from j (at box.low j ∷ drop (suc j) box.low) a (drop j x)) u
    ∙ ap (first_outside_from j (at box.low j ∷ drop (suc j) box.low) (at box.high j ∷ drop (suc j) box.high)) v
    ∙ rw add-one refl

both_of : (a b : Bool) → a ≡ true → b ≡ true → (a && b) ≡ true
both_of true b h k = k
both_of false b h k = cc

not_both : (a b : Bool) → ((a ≡ true) × (b ≡ true) → ⊥) → (a && b) ≡ false
not_both true true h = absurd (h (refl, refl))
not_both true false h = refl
not_both false b h = refl

le_true : (a b : ℤ) → a ≤ℤ b → int_le a b ≡ true
le_true a b h = grind (arith, ints)

le_of : (a b : ℤ) → int_le a b ≡ true → a ≤ℤ b
le_of a b h = grind (arith, ints)

pub outside_later : (j : ℕ) (box : Range) (x : List ℤ) → j < length x → length x ≡ length box.low → IsOrdered box → IsInside box x j → outside_after j box x ≡ outside_after (j + 1) box x
outside_later j box x h lows ordered inside =
    outside_by j box x h lows (omega (arith, ordered.same_length))
    ∙ ap (λ t. cond t (outside_after (j + 1) box x) (Some j)) (both_of (int_le (at box.low j) (at x j)) (int_le (at x j) (at box.high j)) (le_true (at box.low j) (at x j) inside.above) (le_true (at x j) (at box.high j) inside.below))

pub outside_here : (j : ℕ) (box : Range) (x : List ℤ) → j < length x → length x ≡ length box.low → IsOrdered box → (IsInside box x j → ⊥) → outside_after j box x ≡ Some j
outside_here j box x h lows ordered outside =
    outside_by j box x h lows (omega (arith, ordered.same_length))
    ∙ ap (λ t. cond t (outside_after (j + 1) box x) (Some j))
    (not_both (int_le (at box.low j) (at x j)) (int_le (at x j) (at box.high j)) (λ both. outside (record { above = le_of (at box.low j) (at x j) both.0; below = le_of (at x j) (at box.high j) both.1 })))

-- past the last quantity there is none
pub outside_end : (j : ℕ) (box : Range) (x : List ℤ) → length x ≤ j → outside_after j box x ≡ None
outside_end j box x h = ap (first_outside_from j (drop j box.low) (drop j box.high)) (none_left j x h) ∙ none (drop j box.low) (drop j box.high)
  where
    none_left : (j : ℕ) (x : List ℤ) → length x ≤ j → drop j x ≡ []
    none_left zero [] h = refl
    none_left zero (v ∷ x) h = absurd (omega arith)
    none_left (suc j) [] h = refl
    none_left (suc j) (v ∷ x) h = none_left j x (omega arith)

    none : (lows highs : List ℤ) → first_outside_from j lows highs [] ≡ None
    none [] highs = refl
    none (l ∷ lows) [] = refl
    none (l ∷ lows) (u ∷ highs) = refl
