-- Two quantities that pass the test are the same.
use Rattle.std.proofs.Common.{◌≡◌, ℕ, true, ◌&&◌, eqb, refl, ap, ◌∙◌}
use Rattle.std.proofs.lemmas.Bool.{and_parts, eqb-true, eq-eqb, and_from}
use Rattle.opt_model.specs.Quantities.{same_quantity}
use Rattle.opt_model.specs.declared.quantity.Quantity.{Quantity}
use Rattle.opt_model.specs.declared.quantity.Quantity.TheVariants.{Ration, Short, Buy, Ship, Keep, Feed, Order}

-- a function of two numbers, at numbers that pass the tests
two : (f : ℕ → ℕ → Quantity) (a b a' b' : ℕ) → (eqb a a' && eqb b b') ≡ true → f a b ≡ f a' b'
two f a b a' b' e =
    let parts : (eqb a a' ≡ true) × (eqb b b' ≡ true) = and_parts (eqb a a') (eqb b b') e in
    ap (λ x. f x b) (eqb-true a a' parts.0) ∙ ap (λ y. f a' y) (eqb-true b b' parts.1)

-- a function of three numbers, at numbers that pass the tests
three : (f : ℕ → ℕ → ℕ → Quantity) (a b c a' b' c' : ℕ) → (eqb a a' && (eqb b b' && eqb c c')) ≡ true → f a b c ≡ f a' b' c'
three f a b c a' b' c' e =
    let parts : (eqb a a' ≡ true) × ((eqb b b' && eqb c c') ≡ true) = and_parts (eqb a a') (eqb b b' && eqb c c') e in
    ap (λ x. f x b c) (eqb-true a a' parts.0) ∙ two (f a') b c b' c' parts.1

-- quantities that pass the test are the same
pub same_quantity-true : (q r : Quantity) → same_quantity q r ≡ true → q ≡ r
same_quantity-true (Ration b c m) (Ration b' c' m') e = three Ration b c m b' c' m' e
same_quantity-true (Short d m) (Short d' m') e = two Short d m d' m' e
same_quantity-true (Buy o m) (Buy o' m') e = two Buy o m o' m' e
same_quantity-true (Ship a c m) (Ship a' c' m') e = three Ship a c m a' c' m' e
same_quantity-true (Keep p c m) (Keep p' c' m') e = three Keep p c m p' c' m' e
same_quantity-true (Feed p c m) (Feed p' c' m') e = three Feed p c m p' c' m' e
same_quantity-true (Order o m) (Order o' m') e = two Order o m o' m' e
same_quantity-true q r e = cc

-- the tests of equal numbers
pub eqb_self : (n : ℕ) → eqb n n ≡ true
eqb_self n = eq-eqb n n refl

-- a quantity passes the test with itself
pub same_quantity-self : (q : Quantity) → same_quantity q q ≡ true
same_quantity-self (Ration b c m) = and_from _ _ (eqb_self b) (and_from _ _ (eqb_self c) (eqb_self m))
same_quantity-self (Short d m) = and_from _ _ (eqb_self d) (eqb_self m)
same_quantity-self (Buy o m) = and_from _ _ (eqb_self o) (eqb_self m)
same_quantity-self (Ship a c m) = and_from _ _ (eqb_self a) (and_from _ _ (eqb_self c) (eqb_self m))
same_quantity-self (Keep p c m) = and_from _ _ (eqb_self p) (and_from _ _ (eqb_self c) (eqb_self m))
same_quantity-self (Feed p c m) = and_from _ _ (eqb_self p) (and_from _ _ (eqb_self c) (eqb_self m))
same_quantity-self (Order o m) = and_from _ _ (eqb_self o) (eqb_self m)
