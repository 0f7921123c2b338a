-- The entries of rows' sums, one term at a time.
use Rattle.std.proofs.Common.{◌≡◌, ℕ, ◌+◌, ◌-◌, ◌<◌, ◌≤◌, if◌then◌else◌, Bool, true, false, List, [], ◌∷◌, ◌++◌, length, get_or, drop, ℤ, neg_ℤ, refl, ap, sym, ◌∙◌}
use Rattle.std.proofs.lemmas.Bool.{le-leb, lt-leb}
use Rattle.std.proofs.lemmas.List.{drop_more, append_assoc}
use Rattle.opt_frac.specs.Elimination.{negated_if}
use Rattle.opt_simplex.specs.Tableau.{at_rows}

left : (n : ℕ) (b : Bool) (e : ℕ × ℤ) (es : List (ℕ × ℤ)) → n ≤ e.0
    → at_rows n (negated_if b (e ∷ es)) ≡ (e.0 - n, if b then neg_ℤ e.1 else e.1) ∷ at_rows n (negated_if b es)
left n true e es h = rw (le-leb n e.0 h) refl
left n false e es h = rw (le-leb n e.0 h) refl

gone : (n : ℕ) (b : Bool) (e : ℕ × ℤ) (es : List (ℕ × ℤ)) → e.0 < n → at_rows n (negated_if b (e ∷ es)) ≡ at_rows n (negated_if b es)
gone n true e es h = rw (lt-leb n e.0 h) refl
gone n false e es h = rw (lt-leb n e.0 h) refl

-- a term of a row's sum
pub entry-left : (n : ℕ) (b : Bool) (es made all : List (ℕ × ℤ)) (i : ℕ) (d : ℕ × ℤ) (y : ℤ) → i < length es → n ≤ (get_or es i d).0
    → y ≡ (if b then neg_ℤ (get_or es i d).1 else (get_or es i d).1) → made ++ at_rows n (negated_if b (drop i es)) ≡ all
    → (made ++ ((get_or es i d).0 - n, y) ∷ []) ++ at_rows n (negated_if b (drop (i + 1) es)) ≡ all
entry-left n b es made all i d y h past is now =
    append_assoc made (((get_or es i d).0 - n, y) ∷ []) (at_rows n (negated_if b (drop (i + 1) es)))
    ∙ ap (λ z. made ++ ((get_or es i d).0 - n, z) ∷ at_rows n (negated_if b (drop (i + 1) es))) is
    ∙ ap (λ r. made ++ r) (sym (left n b (get_or es i d) (drop (i + 1) es) past))
    ∙ ap (λ ds. made ++ at_rows n (negated_if b ds)) (sym (drop_more es i d h)) ∙ now

-- a term of a quantity
pub entry-gone : (n : ℕ) (b : Bool) (es made all : List (ℕ × ℤ)) (i : ℕ) (d : ℕ × ℤ) → i < length es → (get_or es i d).0 < n
    → made ++ at_rows n (negated_if b (drop i es)) ≡ all → made ++ at_rows n (negated_if b (drop (i + 1) es)) ≡ all
entry-gone n b es made all i d h before now =
    ap (λ r. made ++ r) (sym (gone n b (get_or es i d) (drop (i + 1) es) before))
    ∙ ap (λ ds. made ++ at_rows n (negated_if b ds)) (sym (drop_more es i d h)) ∙ now
