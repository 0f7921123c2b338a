-- The positions of the equations with a term at a variable after one equation has changed.
use Rattle.std.proofs.Common.{◌≡◌, ◌≢◌, ℕ, zero, suc, ◌+◌, ◌<◌, ◌≤◌, if◌then◌else◌, Bool, true, false, List, [], ◌∷◌, ◌++◌, length, get_or, set, take, drop, nat_lt, pos, All, refl, ap, sym, ◌∙◌, arith}
use Rattle.std.proofs.lemmas.Bool.{eq-eqb, ne_eqb}
use Rattle.std.proofs.lemmas.Bool.Decides.{nat_tests}
use Rattle.std.proofs.lemmas.List.{drop_more, drop_all}
use Rattle.std.proofs.lemmas.List.Elements.{All-nil, All-cons, All-head, All-tail, All-weaker}
use Rattle.opt_frac.specs.Equations.{Equation, equation_of}
use Rattle.opt_simplex.specs.Tableau.{equation_at}
use Rattle.opt_simplex.specs.Columns.{has_term, positions_from, with_position, without_position}

-- ---- a position among rising ones
with-front : (p : ℕ) (qs : List ℕ) → All (λ q. p < q) qs → with_position p qs ≡ p ∷ qs
with-front p [] above = refl
with-front p (q ∷ qs) above =
    let first : p < q = All-head (λ r. p < r) q qs above in
    let test : nat_lt p q ≡ true = grind (arith, nat_tests) in
    rw test refl

with-behind : (p q : ℕ) (qs : List ℕ) → q ≤ p → with_position p (q ∷ qs) ≡ q ∷ with_position p qs
with-behind p q qs h =
    let test : nat_lt p q ≡ false = grind (arith, nat_tests) in
    rw test refl

without-behind : (p q : ℕ) (qs : List ℕ) → q ≢ p → without_position p (q ∷ qs) ≡ q ∷ without_position p qs
without-behind p q qs apart = rw (ne_eqb q p apart) refl

without-same : (p q : ℕ) (qs : List ℕ) → q ≡ p → without_position p (q ∷ qs) ≡ without_position p qs
without-same p q qs same = rw (eq-eqb q p same) refl

without-front : (p : ℕ) (qs : List ℕ) → All (λ q. p < q) qs → without_position p qs ≡ qs
without-front p [] above = refl
without-front p (q ∷ qs) above =
    let first : p < q = All-head (λ r. p < r) q qs above in
    without-behind p q qs (omega (arith, first)) ∙ ap (λ rs. q ∷ rs) (without-front p qs (All-tail (λ r. p < r) q qs above))

-- the position is put behind those that are not past it
with-place : (p : ℕ) (qs : List ℕ) (i : ℕ) → All (λ q. q ≤ p) (take i qs) → with_position p (drop i qs) ≡ p ∷ drop i qs
    → with_position p qs ≡ take i qs ++ p ∷ drop i qs
with-place p qs zero before here = here
with-place p [] (suc i) before here = refl
with-place p (q ∷ qs) (suc i) before here =
    with-behind p q qs (All-head (λ r. r ≤ p) q (take i qs) before)
    ∙ ap (λ rs. q ∷ rs) (with-place p qs i (All-tail (λ r. r ≤ p) q (take i qs) before) here)

pub with-place_before : (p : ℕ) (qs : List ℕ) (i : ℕ) → All (λ q. q ≤ p) (take i qs) → i < length qs → p < get_or qs i 0
    → with_position p qs ≡ take i qs ++ p ∷ drop i qs
with-place_before p qs i before inside first =
    with-place p qs i before
    (ap (with_position p) (drop_more qs i 0 inside) ∙ head (get_or qs i 0) (drop (i + 1) qs) first ∙ ap (λ rs. p ∷ rs) (sym (drop_more qs i 0 inside)))
  where
    head : (q : ℕ) (rs : List ℕ) → p < q → with_position p (q ∷ rs) ≡ p ∷ q ∷ rs
    head q rs below =
        let test : nat_lt p q ≡ true = grind (arith, nat_tests) in
        rw test refl

pub with-place_end : (p : ℕ) (qs : List ℕ) (i : ℕ) → All (λ q. q ≤ p) (take i qs) → length qs ≤ i → with_position p qs ≡ take i qs ++ p ∷ drop i qs
with-place_end p qs i before past =
    with-place p qs i before (ap (with_position p) (drop_all i qs past) ∙ ap (λ rs. p ∷ rs) (sym (drop_all i qs past)))

-- ---- the positions after one equation has changed
positions-from : (k j : ℕ) (es : List Equation) → All (λ q. j ≤ q) (positions_from k j es)
positions-from k j [] = All-nil (λ q. j ≤ q)
positions-from k j (e ∷ es) =
    by_test (has_term k e) (All-weaker (λ q. j + 1 ≤ q) (λ q. j ≤ q) (λ q h. omega arith) (positions_from k (j + 1) es) (positions-from k (j + 1) es))
  where
    by_test : (b : Bool) → All (λ q. j ≤ q) (positions_from k (j + 1) es)
        → All (λ q. j ≤ q) (if b then j ∷ positions_from k (j + 1) es else positions_from k (j + 1) es)
    by_test true h = All-cons (λ q. j ≤ q) j (positions_from k (j + 1) es) (omega arith) h
    by_test false h = h

positions-past : (k j : ℕ) (es : List Equation) → All (λ q. j < q) (positions_from k (j + 1) es)
positions-past k j es =
    All-weaker (λ q. j + 1 ≤ q) (λ q. j < q) (λ q h. omega arith) (positions_from k (j + 1) es) (positions-from k (j + 1) es)

pub positions-set_same : (k j : ℕ) (es : List Equation) (i : ℕ) (e : Equation) → has_term k e ≡ has_term k (equation_at es i)
    → positions_from k j (set es i e) ≡ positions_from k j es
positions-set_same k j [] i e same = refl
positions-set_same k j (d ∷ es) zero e same = ap (λ b. if b then j ∷ positions_from k (j + 1) es else positions_from k (j + 1) es) same
positions-set_same k j (d ∷ es) (suc i) e same =
    ap (λ ps. if has_term k d then j ∷ ps else ps) (positions-set_same k (j + 1) es i e same)

pub positions-set_with : (k j : ℕ) (es : List Equation) (i : ℕ) (e : Equation) → i < length es → has_term k (equation_at es i) ≡ false → has_term k e ≡ true
    → positions_from k j (set es i e) ≡ with_position (j + i) (positions_from k j es)
positions-set_with k j [] i e inside none has = absurd (omega (arith, inside))
positions-set_with k j (d ∷ es) zero e inside none has =
    let number : j ≡ j + 0 = omega arith in
    rw (has, none) (sym (with-front j (positions_from k (j + 1) es) (positions-past k j es)) ∙ ap (λ q. with_position q (positions_from k (j + 1) es)) number)
positions-set_with k j (d ∷ es) (suc i) e inside none has =
    let number : j + 1 + i ≡ j + suc i = omega arith in
    by_test (has_term k d)
    (positions-set_with k (j + 1) es i e (omega (arith, inside)) none has ∙ ap (λ q. with_position q (positions_from k (j + 1) es)) number)
  where
    by_test : (b : Bool) → positions_from k (j + 1) (set es i e) ≡ with_position (j + suc i) (positions_from k (j + 1) es)
        → (if b then j ∷ positions_from k (j + 1) (set es i e) else positions_from k (j + 1) (set es i e))
        ≡ with_position (j + suc i) (if b then j ∷ positions_from k (j + 1) es else positions_from k (j + 1) es)
    by_test true h = ap (λ ps. j ∷ ps) h ∙ sym (with-behind (j + suc i) j (positions_from k (j + 1) es) (omega arith))
    by_test false h = h

pub positions-set_without : (k j : ℕ) (es : List Equation) (i : ℕ) (e : Equation) → i < length es → has_term k e ≡ false
    → positions_from k j (set es i e) ≡ without_position (j + i) (positions_from k j es)
positions-set_without k j [] i e inside none = absurd (omega (arith, inside))
positions-set_without k j (d ∷ es) zero e inside none = rw none (by_test (has_term k d))
  where
    rest : positions_from k (j + 1) es ≡ without_position (j + 0) (positions_from k (j + 1) es)
    rest =
        let number : j ≡ j + 0 = omega arith in
        sym (without-front j (positions_from k (j + 1) es) (positions-past k j es)) ∙ ap (λ q. without_position q (positions_from k (j + 1) es)) number

    by_test : (b : Bool) → positions_from k (j + 1) es
        ≡ without_position (j + 0) (if b then j ∷ positions_from k (j + 1) es else positions_from k (j + 1) es)
    by_test true = rest ∙ sym (without-same (j + 0) j (positions_from k (j + 1) es) (omega arith))
    by_test false = rest
positions-set_without k j (d ∷ es) (suc i) e inside none =
    let number : j + 1 + i ≡ j + suc i = omega arith in
    by_test (has_term k d)
    (positions-set_without k (j + 1) es i e (omega (arith, inside)) none ∙ ap (λ q. without_position q (positions_from k (j + 1) es)) number)
  where
    by_test : (b : Bool) → positions_from k (j + 1) (set es i e) ≡ without_position (j + suc i) (positions_from k (j + 1) es)
        → (if b then j ∷ positions_from k (j + 1) (set es i e) else positions_from k (j + 1) (set es i e))
        ≡ without_position (j + suc i) (if b then j ∷ positions_from k (j + 1) es else positions_from k (j + 1) es)
    by_test true h = ap (λ ps. j ∷ ps) h ∙ sym (without-behind (j + suc i) j (positions_from k (j + 1) es) (omega arith))
    by_test false h = h

-- an equation without terms is in no column
pub positions-blank : (k j : ℕ) (es : List Equation) → positions_from k j (es ++ equation_of 0 (pos 1) [] ∷ []) ≡ positions_from k j es
positions-blank k j [] = refl
positions-blank k j (e ∷ es) = ap (λ ps. if has_term k e then j ∷ ps else ps) (positions-blank k (j + 1) es)
