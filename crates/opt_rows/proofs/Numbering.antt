-- The number of a quantity in a list without duplicates, and the plan of a list of values.
use Rattle.std.proofs.Common.{◌≡◌, ◌≢◌, inl, inr, ℕ, zero, suc, ◌+◌, ◌≤◌, ◌<◌, Bool, true, false, cond, not, List, [], ◌∷◌, length, get_or, Option, Some, None, ℤ, pos, ◌+ℤ◌, ◌*ℤ◌, All, refl, ap, sym, ◌∙◌, subst, arith}
use Rattle.std.specs.Prelude.{if◌then◌else◌, nat_lt}
use Rattle.std.specs.List.{AllPairs, position, position_or_len}
use Rattle.std.specs.Option.{option_map_or}
use Rattle.std.proofs.lemmas.Int.{ints}
use Rattle.std.proofs.lemmas.Bool.{cases_lt, lt-ltb, le-ltb, false_from_ne_true}
use Rattle.opt_sums.specs.Sums.{at}
use Rattle.opt_sums.specs.Entries.{dot}
use Rattle.opt_model.specs.Quantities.{same_quantity}
use Rattle.opt_model.specs.Rows.{Terms, coefficient, coefficients_by_number}
use Rattle.opt_model.specs.Plans.{sum_of, plan_of}
use Rattle.opt_model.specs.declared.quantity.Quantity.{Quantity}
use Rattle.opt_model.proofs.Quantities.{same_quantity-true, same_quantity-self}
use Rattle.opt_rows.proofs.Totals.{total, total-add, total-none, terms_total}

-- no two quantities of the list are the same
abbrev pub AreDistinct : List Quantity → Type 0
AreDistinct qs = AllPairs (λ q r. q ≢ r) qs

pub distinct_tail : (q : Quantity) (qs : List Quantity) → AreDistinct (q ∷ qs) → AreDistinct qs
distinct_tail q qs distinct i j d below within = distinct (suc i) (suc j) d (omega arith) (omega arith)

-- the first quantity differs from each later one
pub distinct_head : (q : Quantity) (qs : List Quantity) → AreDistinct (q ∷ qs) → All (λ r. q ≢ r) qs
distinct_head q qs distinct k d within = distinct 0 (suc k) d (omega arith) (omega arith)

-- quantities that differ fail the test
pub other_quantity : (q r : Quantity) → q ≢ r → same_quantity q r ≡ false
other_quantity q r apart = false_from_ne_true (same_quantity q r) (λ e. apart (same_quantity-true q r e))

-- f at the number of the quantity, in a list that is numbered from k on, or 0 where it is not in the list
abbrev pub value_from : (ℕ → ℤ) → Quantity → ℕ → List Quantity → ℤ
value_from f a k [] = pos 0
value_from f a k (q ∷ qs) = cond (same_quantity a q) (f k) (value_from f a (k + 1) qs)

-- f at k or past it, by the length of what was passed over
one_place : (b : Bool) (l n : ℕ) (f : ℕ → ℤ) (k : ℕ)
    → option_map_or (λ i. f (k + i)) (cond (nat_lt (cond (not b) (1 + l) 0) (suc n)) (Some (cond (not b) (1 + l) 0)) None) (pos 0)
    ≡ cond b (f k) (option_map_or (λ i. f ((k + 1) + i)) (cond (nat_lt l n) (Some l) None) (pos 0))
one_place true l n f k = let e : k + 0 ≡ k = omega arith in rw (lt-ltb 0 (suc n) (omega arith)) (ap f e)
one_place false l n f k =
    elim (cases_lt l n) [
      | inl h ↦
          let below : l < n = h in
          let e : k + (1 + l) ≡ (k + 1) + l = omega arith in
          rw (lt-ltb (1 + l) (suc n) (omega arith), lt-ltb l n below) (ap f e)
      | inr h ↦
          let past : n ≤ l = h in
          rw (le-ltb (1 + l) (suc n) (omega arith), le-ltb l n past) refl
    ]

place_is : (f : ℕ → ℤ) (a : Quantity) (k : ℕ) (qs : List Quantity)
    → option_map_or (λ i. f (k + i)) (position (same_quantity a) qs) (pos 0) ≡ value_from f a k qs
place_is f a k [] = refl
place_is f a k (q ∷ qs) =
    one_place (same_quantity a q) (position_or_len (same_quantity a) qs) (length qs) f k
    ∙ ap (cond (same_quantity a q) (f k)) (place_is f a (k + 1) qs)

-- numbers from 0 on
from_none : (f : ℕ → ℤ) (o : Option ℕ) → option_map_or f o (pos 0) ≡ option_map_or (λ i. f (0 + i)) o (pos 0)
from_none f None = refl
from_none f (Some i) = let e : i ≡ 0 + i = omega arith in ap f e

-- what the plan of a list of values gives a quantity
pub plan_is : (qs : List Quantity) (x : List ℤ) (a : Quantity) → plan_of qs x a ≡ value_from (at x) a 0 qs
plan_is qs x a = from_none (at x) (position (same_quantity a) qs) ∙ place_is (at x) a 0 qs

-- one coefficient, at one quantity
abbrev pub one_at : Quantity → ℤ → Quantity → ℤ
one_at a v q = if same_quantity a q then v else pos 0

one_elsewhere : (a : Quantity) (v : ℤ) (qs : List Quantity) → All (λ r. a ≢ r) qs → All (λ q. one_at a v q ≡ pos 0) qs
one_elsewhere a v qs apart k d within = rw (other_quantity a (get_or qs k d) (apart k d within)) refl

-- one more quantity, by whether it is the one
one_more : (a : Quantity) (v : ℤ) (f : ℕ → ℤ) (k : ℕ) (q : Quantity) (qs : List Quantity) → AreDistinct (q ∷ qs) → total (one_at a v) f (k + 1) qs ≡ v *ℤ value_from f a (k + 1) qs
    → (b : Bool) → same_quantity a q ≡ b → total (one_at a v) f k (q ∷ qs) ≡ v *ℤ value_from f a k (q ∷ qs)
one_more a v f k q qs distinct rest true e =
    let same : a ≡ q = same_quantity-true a q e in
    let apart : All (λ r. a ≢ r) qs = subst (λ (p : Quantity). All (λ r. p ≢ r) qs) (sym same) (distinct_head q qs distinct) in
    rw e (omega (arith, ints, total-none (one_at a v) f (k + 1) qs (one_elsewhere a v qs apart)))
one_more a v f k q qs distinct rest false e = rw e (omega (arith, ints, rest))

-- the sum of one coefficient, at one quantity
total-one : (a : Quantity) (v : ℤ) (f : ℕ → ℤ) (k : ℕ) (qs : List Quantity) → AreDistinct qs → total (one_at a v) f k qs ≡ v *ℤ value_from f a k qs
total-one a v f k [] distinct = omega (arith, ints)
total-one a v f k (q ∷ qs) distinct =
    one_more a v f k q qs distinct (total-one a v f (k + 1) qs (distinct_tail q qs distinct)) (same_quantity a q) refl

-- the sum of the terms' coefficients times the values of their quantities
pub total-terms : (qs : List Quantity) (x : List ℤ) (terms : Terms) → AreDistinct qs → total (coefficient terms) (at x) 0 qs ≡ sum_of terms (plan_of qs x)
total-terms qs x [] distinct = total-none (coefficient []) (at x) 0 qs (λ k d within. refl)
total-terms qs x (term ∷ terms) distinct =
    total-add (one_at term.0 term.1) (coefficient terms) (at x) 0 qs
    ∙ (ap (λ z. z +ℤ total (coefficient terms) (at x) 0 qs) (total-one term.0 term.1 (at x) 0 qs distinct ∙ ap (λ v. term.1 *ℤ v) (sym (plan_is qs x term.0)))
    ∙ ap (λ z. (term.1 *ℤ plan_of qs x term.0) +ℤ z) (total-terms qs x terms distinct))

-- the sum of terms under the plan of a list of values is the sum of the numbered coefficients times the values
pub sum_is_dot : (qs : List Quantity) (x : List ℤ) (terms : Terms) → AreDistinct qs → dot (coefficients_by_number qs terms) x ≡ sum_of terms (plan_of qs x)
sum_is_dot qs x terms distinct = terms_total (coefficient terms) (at x) 0 qs ∙ total-terms qs x terms distinct

-- each quantity of the list has the value at its own number
pub value_at : (f : ℕ → ℤ) (k : ℕ) (qs : List Quantity) (i : ℕ) (d : Quantity) → AreDistinct qs → i < length qs → value_from f (get_or qs i d) k qs ≡ f (k + i)
value_at f k [] i d distinct within = absurd (omega arith)
value_at f k (q ∷ qs) zero d distinct within = let e : k ≡ k + 0 = omega arith in rw (same_quantity-self q) (ap f e)
value_at f k (q ∷ qs) (suc i) d distinct within =
    let apart : get_or qs i d ≢ q = λ e. distinct_head q qs distinct i d (omega arith) (sym e) in
    let e : (k + 1) + i ≡ k + suc i = omega arith in
    rw (other_quantity (get_or qs i d) q apart) (value_at f (k + 1) qs i d (distinct_tail q qs distinct) (omega arith) ∙ ap f e)

pub plan_at : (qs : List Quantity) (x : List ℤ) (i : ℕ) (d : Quantity) → AreDistinct qs → i < length qs → plan_of qs x (get_or qs i d) ≡ at x i
plan_at qs x i d distinct within =
    let e : 0 + i ≡ i = omega arith in
    plan_is qs x (get_or qs i d) ∙ (value_at (at x) 0 qs i d distinct within ∙ ap (at x) e)
