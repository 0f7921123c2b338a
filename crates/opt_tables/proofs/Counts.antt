-- Where no two elements at different places pass a test, at most one passes.
use Rattle.std.proofs.Common.{◌≡◌, ◌≤◌, ℕ, suc, ◌<◌, Bool, true, false, cond, List, [], ◌∷◌, length, get_or, refl, arith, inl, inr}
use Rattle.std.specs.Prelude.{count_by}
use Rattle.std.proofs.lemmas.Bool.{cases_Bool, cond-true, cond-false, false_from_ne_true}
use Rattle.std.proofs.lemmas.List.Sums.{sum_by-cons}

none_pass : {X : Type 0} (p : X → Bool) (xs : List X) → ((k : ℕ) (d : X) → k < length xs → p (get_or xs k d) ≡ false) → count_by p xs ≡ 0
none_pass p [] fails = refl
none_pass p (x ∷ xs) fails =
    let here : ◌≡◌ {A = ℕ} (cond (p x) 1 0) 0 = cond-false (p x) 1 0 (fails 0 x (omega arith)) in
    let rest : count_by p xs ≡ 0 = none_pass p xs (λ k d within. fails (suc k) d (omega arith)) in
    omega (arith, sum_by-cons (λ y. cond (p y) 1 0) x xs, here, rest)

pub one_passes : {X : Type 0} (p : X → Bool) (xs : List X) → ((i j : ℕ) (d : X) → i < j → j < length xs → p (get_or xs i d) ≡ true → p (get_or xs j d) ≡ true → ⊥) → count_by p xs ≤ 1
one_passes p [] apart = omega arith
one_passes p (x ∷ xs) apart = elim (cases_Bool (p x)) [
  | inl passes ↦
      let here : ◌≡◌ {A = ℕ} (cond (p x) 1 0) 1 = cond-true (p x) 1 0 passes in
      let rest : count_by p xs ≡ 0 = none_pass p xs (λ k d within. false_from_ne_true (p (get_or xs k d)) (apart 0 (suc k) d (omega arith) (omega arith) passes)) in
      omega (arith, sum_by-cons (λ y. cond (p y) 1 0) x xs, here, rest)
  | inr fails ↦
      let here : ◌≡◌ {A = ℕ} (cond (p x) 1 0) 0 = cond-false (p x) 1 0 fails in
      let rest : count_by p xs ≤ 1 = one_passes p xs (λ i j d before within. apart (suc i) (suc j) d (omega arith) (omega arith)) in
      omega (arith, sum_by-cons (λ y. cond (p y) 1 0) x xs, here, rest)
]
