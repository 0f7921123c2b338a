-- Words of a line: parted and joined, and compared.
use Rattle.std.proofs.Common.{◌≡◌, ℕ, zero, suc, ◌+◌, ◌^◌, ◌<◌, ◌≤◌, ◌==◌, eqb, Bool, true, false, ◌&&◌, ◌||◌, not, cond, List, [], ◌∷◌, ◌++◌, length, Option, Some, None, All, ◌⊎◌, ⊎_elim, inl, inr, codes, refl, sym, ap, ◌∙◌, subst, arith}
use Rattle.std.specs.List.{slice_split, join_with_byte, list_all}
use Rattle.std.specs.Str.{bytes_eq, all_ascii_digits}
use Rattle.std.proofs.lemmas.Bool.Decides.{nat_tests}
use Rattle.std.proofs.lemmas.List.Splits.{slice_split_none, slice_split_at, join_with_byte-slice_split}
use Rattle.std.proofs.lemmas.Str.Parse.{tells_all_ascii_digits}
use Rattle.opt_cert.specs.Numbers.{pieces}
use Rattle.opt_cert.specs.Forms.{one, two}
use Rattle.opt_cert.proofs.DecimalLemmas.{IsFree}
use Rattle.opt_cert.proofs.RangeLemmas.{and_true, all_by}

-- the byte stands in none of the words
abbrev pub AllFree : ℕ → List (List ℕ) → Type 0
AllFree c [] = Unit {0}
AllFree c (w ∷ ws) = IsFree c w × AllFree c ws

same_byte : (c : ℕ) → eqb c c ≡ true
same_byte c = grind (arith, nat_tests)

-- words without the separator are got back from their text
pub pieces-join : (c : ℕ) (ws : List (List ℕ)) → 0 < length ws → AllFree c ws → pieces c (join_with_byte c ws) ≡ ws
pieces-join c [] some free = absurd (omega arith)
pieces-join c (w ∷ []) some free = slice_split_none (λ b. b == c) w free.0
pieces-join c (w ∷ v ∷ ws) some free =
    slice_split_at (λ b. b == c) w c (join_with_byte c (v ∷ ws)) free.0 (same_byte c)
    ∙ ap (λ ps. w ∷ ps) (pieces-join c (v ∷ ws) (omega arith) free.1)

-- a text is got back from its words
pub join-pieces : (c : ℕ) (xs : List ℕ) → join_with_byte c (pieces c xs) ≡ xs
join-pieces c xs = join_with_byte-slice_split c xs

pub same_word : (w t : List ℕ) → bytes_eq w t ≡ true → w ≡ t
same_word [] [] h = refl
same_word [] (x ∷ t) h = cc
same_word (x ∷ w) [] h = cc
same_word (x ∷ w) (y ∷ t) h =
    let e = and_true (eqb x y) (bytes_eq w t) h in
    let same : x ≡ y = grind (arith, nat_tests) in
    ap (λ z. z ∷ w) same ∙ ap (λ z. y ∷ z) (same_word w t e.1)

-- no number is the word none
pub digits_not_none : (ds : List ℕ) → all_ascii_digits ds ≡ true → bytes_eq ds (codes "none") ≡ false
digits_not_none [] h = refl
digits_not_none (d ∷ ds) h =
    let t = tells_all_ascii_digits.parts d ds h in
    let no : eqb d 110 ≡ false = grind (arith, nat_tests, t.0) in
    ap (λ b. b && bytes_eq ds (codes "one")) no

pub chosen_by : {A : Type 0} (b : Bool) (x y : Option A) (a : A) → cond b x y ≡ Some a → ((b ≡ true) × (x ≡ Some a)) ⊎ ((b ≡ false) × (y ≡ Some a))
chosen_by true x y a h = inl (refl, h)
chosen_by false x y a h = inr (refl, h)

pub only_by : {A : Type 0} (b : Bool) (x : Option A) (a : A) → cond b x None ≡ Some a → (b ≡ true) × (x ≡ Some a)
only_by true x a h = (refl, h)
only_by false x a h = cc

pub one_back : (ws : List (List ℕ)) (w : List ℕ) → one ws ≡ Some w → w ∷ [] ≡ ws
one_back [] w h = cc
one_back (v ∷ []) w h = let e : w ≡ v = cc in ap (λ x. x ∷ []) e
one_back (v ∷ u ∷ ws) w h = cc

pub two_back : (ws : List (List ℕ)) (p : List ℕ × List ℕ) → two ws ≡ Some p → p.0 ∷ p.1 ∷ [] ≡ ws
two_back [] p h = cc
two_back (v ∷ []) p h = cc
two_back (v ∷ u ∷ []) p h = let e : p ≡ (v, u) = cc in ap (λ x. x.0 ∷ x.1 ∷ []) e
two_back (v ∷ u ∷ t ∷ ws) p h = cc

-- a word is free of a byte where a test of all its bytes says so
pub free_by : (c : ℕ) (xs : List ℕ) → list_all (λ b. not (b == c)) xs ≡ true → IsFree c xs
free_by c xs h = all_by (λ b. not (b == c)) (λ b. (b == c) ≡ false) (λ b e. opposite (b == c) e) xs h
  where
    opposite : (b : Bool) → not b ≡ true → b ≡ false
    opposite true e = cc
    opposite false e = refl
