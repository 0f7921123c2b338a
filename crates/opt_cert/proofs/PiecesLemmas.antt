-- The pieces of a text, at its first separator.
use Rattle.std.proofs.Common.{◌≡◌, ℕ, suc, ◌+◌, ◌<◌, ◌≤◌, Bool, true, false, cond, not, eqb, ltb, nat_lt, List, [], ◌∷◌, ◌++◌, length, take, drop, get_or, Option, Some, None, MatchOption, Bor, refl, sym, ap, ◌∙◌, subst, arith}
use Rattle.std.specs.List.{slice_split, onto_first, prefix_len, position_or_len, position, before_first, after_first}
use Rattle.std.proofs.lemmas.Bool.Decides.{nat_tests}
use Rattle.std.proofs.lemmas.List.Splits.{slice_split_first, length-slice_split}
use Rattle.std.proofs.lemmas.List.Sums.{split_at_first, passes_at_first, count_by-le-length}
use borrow.Author.Tests.{eqb-true, ltb-true}
use Rattle.opt_cert.specs.Numbers.{pieces}

module _ (p : ℕ → Bool) where
  -- where no separator stands, the text is the one piece
  unsplit : (xs : List ℕ) → nat_lt (position_or_len p xs) (length xs) ≡ false → slice_split p xs ≡ xs ∷ []
  unsplit [] h = refl
  unsplit (x ∷ xs) h =
      (elim (p x) as (λ b. nat_lt (cond (not b) (1 + position_or_len p xs) 0) (length (x ∷ xs)) ≡ false → cond b ([] ∷ slice_split p xs) (onto_first x (slice_split p xs)) ≡ (x ∷ xs) ∷ []) [
        | true ↦ λ g. grind (arith, nat_tests)
        | false ↦ λ g. ap (onto_first x) (unsplit xs (grind (arith, nat_tests)))
      ]) h

  chosen_none : (b : Bool) (k : ℕ) → cond b (Some k) None ≡ None → b ≡ false
  chosen_none true k h = cc
  chosen_none false k h = refl

  chosen_some : (b : Bool) (j k : ℕ) → cond b (Some j) None ≡ Some k → (b ≡ true) × (j ≡ k)
  chosen_some true j k h = (refl, cc)
  chosen_some false j k h = cc

  pub pieces_none : (xs : List ℕ) → position p xs ≡ None → slice_split p xs ≡ xs ∷ []
  pieces_none xs h = unsplit xs (chosen_none (nat_lt (position_or_len p xs) (length xs)) (position_or_len p xs) h)

  pub place_is : (xs : List ℕ) (k : ℕ) → position p xs ≡ Some k → (position_or_len p xs < length xs) × (position_or_len p xs ≡ k)
  place_is xs k h =
      let t = chosen_some (nat_lt (position_or_len p xs) (length xs)) (position_or_len p xs) k h in
      (ltb-true (position_or_len p xs) (length xs) t.0, t.1)

  pub pieces_some : (xs : List ℕ) (k : ℕ) → position p xs ≡ Some k → slice_split p xs ≡ take k xs ∷ slice_split p (drop (k + 1) xs)
  pieces_some xs k h =
      let t = place_is xs k h in
      subst (λ n. slice_split p xs ≡ take n xs ∷ slice_split p (drop (n + 1) xs)) t.1 (slice_split_first p xs 0 t.0)

-- what stands before the first separator, the separator, and what stands after it
pub pieces_whole : (c : ℕ) (xs : List ℕ) (k : ℕ) → position (λ b. eqb b c) xs ≡ Some k → xs ≡ take k xs ++ c ∷ drop (k + 1) xs
pieces_whole c xs k h =
    let t = place_is (λ b. eqb b c) xs k h in
    let e = split_at_first (λ b. eqb b c) xs 0 t.0 in
    let v = eqb-true (get_or xs (position_or_len (λ b. eqb b c) xs) 0) c (passes_at_first (λ b. eqb b c) xs 0 t.0) in
    subst (λ n. xs ≡ take n xs ++ c ∷ drop (n + 1) xs) t.1 (e ∙ ap (λ b. before_first (λ b. eqb b c) xs ++ b ∷ after_first (λ b. eqb b c) xs) v)

-- ---- what calls of `next` told
abbrev pub Gave : Option (Bor (List ℕ)) → List (List ℕ) → List (List ℕ) → Type 0
Gave r old new = MatchOption r ((old ≡ []) × (new ≡ [])) (λ piece. old ≡ piece.now ∷ new)

pub gave_some : (r : Option (Bor (List ℕ))) (old new : List (List ℕ)) (x : Bor (List ℕ)) → Gave r old new → r ≡ Some x → old ≡ x.now ∷ new
gave_some None old new x h e = cc
gave_some (Some y) old new x h e = let same : y ≡ x = cc in h ∙ ap (λ b. b.now ∷ new) same

pub gave_none : (r : Option (Bor (List ℕ))) (old new : List (List ℕ)) → Gave r old new → r ≡ None → old ≡ []
gave_none None old new h e = h.0
gave_none (Some y) old new h e = cc

-- ---- how many pieces there are
pub length-pieces : (c : ℕ) (xs : List ℕ) → length (pieces c xs) ≤ length xs + 1
length-pieces c xs = omega (arith, length-slice_split (λ b. eqb b c) xs, count_by-le-length (λ b. eqb b c) xs)
