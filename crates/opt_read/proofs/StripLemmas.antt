-- Spaces and tabs at the ends of a field.
use Rattle.std.proofs.Common.{◌≡◌, ◌≤◌, ◌+◌, ◌-◌, ℕ, zero, suc, true, false, List, [], ◌∷◌, ◌++◌, length, take, reverse, refl, ap, sym, subst, ◌∙◌, inl, inr, arith, add_comm, add-one, length-append}
use Rattle.std.proofs.lemmas.Bool.{cases_Bool}
use Rattle.std.proofs.lemmas.List.{reverse-append, reverse-reverse, take-append-le}
use Rattle.std.proofs.Math.Seq.{take-length}
use Rattle.std.specs.List.{prefix_len, suffix_len}
use Rattle.opt_read.specs.Grid.{is_blank, without_back, without_blanks, without_front}

-- a blank at the start goes
pub front-more : (byte : ℕ) (rest : List ℕ) → is_blank byte ≡ true → without_front (byte ∷ rest) ≡ without_front rest
front-more byte rest e = rw (e, add_comm 1 (prefix_len is_blank rest), add-one)

-- another byte at the start stays
pub front-stops : (byte : ℕ) (rest : List ℕ) → is_blank byte ≡ false → without_front (byte ∷ rest) ≡ byte ∷ rest
front-stops byte rest e = rw e

-- a blank at the end goes
pub back-more : (front : List ℕ) (byte : ℕ) → is_blank byte ≡ true → without_back (front ++ byte ∷ []) ≡ without_back front
back-more front byte e =
    let blanks : suffix_len is_blank (front ++ byte ∷ []) ≡ 1 + suffix_len is_blank front = rw (reverse-append front (byte ∷ []), e) in
    let kept : length (front ++ byte ∷ []) - suffix_len is_blank (front ++ byte ∷ []) ≡ length front - suffix_len is_blank front =
    omega (arith, blanks, length-append front (byte ∷ [])) in
    let within : length front - suffix_len is_blank front ≤ length front = omega arith in
    rw kept (take-append-le _ front (byte ∷ []) within)

-- another byte at the end stays
pub back-stops : (front : List ℕ) (byte : ℕ) → is_blank byte ≡ false → without_back (front ++ byte ∷ []) ≡ front ++ byte ∷ []
back-stops front byte e =
    let blanks : suffix_len is_blank (front ++ byte ∷ []) ≡ 0 = rw (reverse-append front (byte ∷ []), e) in
    let all : length (front ++ byte ∷ []) - suffix_len is_blank (front ++ byte ∷ []) ≡ length (front ++ byte ∷ []) = omega arith in
    rw all (take-length _)

-- what starts with another byte has no blank at its start, nor has any first part of it
front-starts : (byte : ℕ) (rest : List ℕ) (n : ℕ) → is_blank byte ≡ false → without_front (take n (byte ∷ rest)) ≡ take n (byte ∷ rest)
front-starts byte rest zero other = refl
front-starts byte rest (suc n) other = front-stops byte (take n rest) other

-- once the blanks at the start are gone, no first part of the rest has one there
front-gone : (field : List ℕ) (n : ℕ) → without_front (take n (without_front field)) ≡ take n (without_front field)
front-gone [] zero = refl
front-gone [] (suc n) = refl
front-gone (byte ∷ rest) n = elim (cases_Bool (is_blank byte)) [
  | inl blank ↦ subst (λ (field : List ℕ). without_front (take n field) ≡ take n field) (sym (front-more byte rest blank)) (front-gone rest n)
  | inr other ↦ subst (λ (field : List ℕ). without_front (take n field) ≡ take n field) (sym (front-stops byte rest other)) (front-starts byte rest n other)
]

-- once the blanks at the end are gone, there is none
back-reversed : (field : List ℕ) → without_back (without_back (reverse field)) ≡ without_back (reverse field)
back-reversed [] = refl
back-reversed (byte ∷ rest) =
    let last : reverse rest ++ byte ∷ [] ≡ reverse (byte ∷ rest) = sym (reverse-append (byte ∷ []) rest) in
    subst (λ (field : List ℕ). without_back (without_back field) ≡ without_back field) last (by (back-reversed rest))
  where
    by : without_back (without_back (reverse rest)) ≡ without_back (reverse rest) → without_back (without_back (reverse rest ++ byte ∷ [])) ≡ without_back (reverse rest ++ byte ∷ [])
    by before = elim (cases_Bool (is_blank byte)) [
      | inl blank ↦ subst (λ (field : List ℕ). without_back field ≡ field) (sym (back-more (reverse rest) byte blank)) before
      | inr other ↦ subst (λ (field : List ℕ). without_back field ≡ field) (sym (back-stops (reverse rest) byte other)) (back-stops (reverse rest) byte other)
    ]

back-gone : (field : List ℕ) → without_back (without_back field) ≡ without_back field
back-gone field = subst (λ (other : List ℕ). without_back (without_back other) ≡ without_back other) (reverse-reverse field) (back-reversed (reverse field))

-- a stripped field has no blank at its ends
pub without_blanks-stripped : (field : List ℕ) → without_blanks (without_blanks field) ≡ without_blanks field
without_blanks-stripped field =
    ap without_back (front-gone field (length (without_front field) - suffix_len is_blank (without_front field))) ∙ back-gone (without_front field)
