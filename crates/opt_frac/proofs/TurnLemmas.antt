-- A turned equation's terms: those before the old basic variable, that variable, and those after it.
use Rattle.std.proofs.Common.{◌≡◌, ◌≢◌, ℕ, zero, suc, ◌<◌, List, [], ◌∷◌, ◌++◌, take, drop, ℤ, neg_ℤ, Bool, true, false, ◌==◌, not, if◌then◌else◌, All, refl, ap, sym, ◌∙◌, append_assoc, arith}
use Rattle.std.proofs.lemmas.Int.{ints}
use Rattle.std.proofs.lemmas.List.{map-append}
use Rattle.std.proofs.lemmas.List.Elements.{All-head, All-tail, filter-append}
use Rattle.std.proofs.lemmas.Bool.Decides.{nat_tests}
use Rattle.opt_frac.specs.Elimination.{more, negated_if, without}
use Rattle.opt_frac.proofs.TermSums.{more_after}
use Rattle.opt_frac.proofs.MergeLemmas.{Above, more-front}

-- a term added in its place
pub more_place : (a : ℕ × ℤ) (es : List (ℕ × ℤ)) (i : ℕ) → All (λ e. e.0 < a.0) (take i es) → Above a.0 (drop i es) → more a es ≡ take i es ++ a ∷ drop i es
more_place a es zero before after = more-front a es after
more_place a [] (suc i) before after = refl
more_place a (e ∷ es) (suc i) before after =
    more_after a e es (All-head (λ d. d.0 < a.0) e (take i es) before)
    ∙ ap (λ s. e ∷ s) (more_place a es i (All-tail (λ d. d.0 < a.0) e (take i es) before) after)

negated_if-append : (b : Bool) (es ds : List (ℕ × ℤ)) → negated_if b (es ++ ds) ≡ negated_if b es ++ negated_if b ds
negated_if-append true es ds = map-append (λ (e : ℕ × ℤ). (e.0, neg_ℤ e.1)) es ds
negated_if-append false es ds = refl

neg-neg : (z : ℤ) → neg_ℤ (neg_ℤ z) ≡ z
neg-neg z = omega (arith, ints)

-- the sign of the lead is changed twice, or not at all
sign_of_lead : (b : Bool) (k : ℕ) (z : ℤ) (es : List (ℕ × ℤ)) → negated_if b ((k, neg_ℤ z) ∷ es) ≡ (k, if not b then neg_ℤ z else z) ∷ negated_if b es
sign_of_lead true k z es = ap (λ n. (k, n) ∷ negated_if true es) (neg-neg z)
sign_of_lead false k z es = refl

without-other : (col : ℕ) (e : ℕ × ℤ) (es : List (ℕ × ℤ)) → e.0 ≢ col → without col (e ∷ es) ≡ e ∷ without col es
without-other col e es h =
    let test : (e.0 == col) ≡ false = grind (arith, nat_tests) in
    rw test refl

-- the terms of a turned equation, in three parts
pub turned_parts : (b : Bool) (col k place : ℕ) (lead : ℤ) (es : List (ℕ × ℤ)) → k ≢ col → more (k, neg_ℤ lead) es ≡ take place es ++ (k, neg_ℤ lead) ∷ drop place es → negated_if b (without col (more (k, neg_ℤ lead) es)) ≡ (negated_if b (without col (take place es)) ++ (k, if not b then neg_ℤ lead else lead) ∷ []) ++ negated_if b (without col (drop place es))
turned_parts b col k place lead es other is =
    ap (λ s. negated_if b (without col s)) is
    ∙ ap (negated_if b) (filter-append (λ (e : ℕ × ℤ). not (e.0 == col)) (take place es) ((k, neg_ℤ lead) ∷ drop place es))
    ∙ negated_if-append b (without col (take place es)) (without col ((k, neg_ℤ lead) ∷ drop place es))
    ∙ ap (λ s. negated_if b (without col (take place es)) ++ negated_if b s) (without-other col (k, neg_ℤ lead) (drop place es) other)
    ∙ ap (λ s. negated_if b (without col (take place es)) ++ s) (sign_of_lead b k lead (without col (drop place es)))
    ∙ sym (append_assoc (negated_if b (without col (take place es))) ((k, if not b then neg_ℤ lead else lead) ∷ []) (negated_if b (without col (drop place es))))
