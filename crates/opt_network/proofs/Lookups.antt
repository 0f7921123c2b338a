-- Quantities are found by their numbers and numbers by their quantities.
use Rattle.std.proofs.Common.{◌≡◌, ℕ, ◌+◌, ◌<◌, ◌≤◌, zero, suc, Bool, true, false, cond, not, ◌||◌, if◌then◌else◌, List, [], ◌∷◌, ◌++◌, length, take, get_or, count_by, position, Some, None, refl, sym, ap, ◌∙◌, arith}
use Rattle.std.specs.Prelude.{slice_get, nat_lt}
use Rattle.std.specs.List.{position_or_len, list_any}
use Rattle.std.proofs.lemmas.Bool.{lt-ltb}
use Rattle.std.proofs.lemmas.List.{take_more}
use Rattle.std.proofs.lemmas.List.Sums.{sum_by-cons, sum_by_more_le}
use Rattle.std.proofs.lemmas.Option.{slice_get_within}
use Rattle.indexmap.specs.IndexSet.{insert_key}
use mathlib.Core.Path.{fun_ext}
use Rattle.opt_model.specs.contracts.quantity.QuantityPartialEq.TheImpl as equality
use Rattle.opt_model.specs.Quantities.{same_quantity}
use Rattle.opt_model.specs.declared.quantity.Quantity.{Quantity}
use Rattle.opt_model.specs.declared.quantity.Quantity.TheVariants.{Ration, Short, Buy, Ship, Keep, Feed, Order}
use Rattle.opt_model.proofs.Quantities.{same_quantity-self}
use Rattle.opt_network.proofs.Once.{bit}

-- whether two quantities are equal
abbrev pub are_equal : Quantity → Quantity → Bool
are_equal a b = (equality.eq-value).it a b

pub are_equal-same : (a b : Quantity) → are_equal a b ≡ same_quantity a b
are_equal-same (Ration b c m) (Ration b' c' m') = refl
are_equal-same (Short d m) (Short d' m') = refl
are_equal-same (Buy o m) (Buy o' m') = refl
are_equal-same (Ship a c m) (Ship a' c' m') = refl
are_equal-same (Keep p c m) (Keep p' c' m') = refl
are_equal-same (Feed p c m) (Feed p' c' m') = refl
are_equal-same (Order o m) (Order o' m') = refl
are_equal-same q r = refl

-- where a quantity is found
pub position-same : (q : Quantity) (qs : List Quantity) → position (are_equal q) qs ≡ position (same_quantity q) qs
position-same q qs = ap (λ test. position test qs) (fun_ext (are_equal-same q))

-- ---- a list in which at most one element passes a test
module _ {X : Type 0} (p : X → Bool) where
  count_by-cons : (x : X) (xs : List X) → count_by p (x ∷ xs) ≡ bit (p x) + count_by p xs
  count_by-cons x xs = sum_by-cons (λ x. cond (p x) 1 0) x xs

  -- an element that passes is counted
  pub counted-there : (xs : List X) (i : ℕ) (x : X) → slice_get xs i ≡ Some x → p x ≡ true → 1 ≤ count_by p xs
  counted-there [] i x at e = cc
  counted-there (y ∷ ys) zero x at e =
      let same : y ≡ x = cc in
      let one : bit (p y) ≡ 1 = ap (λ z. bit (p z)) same ∙ ap bit e in
      omega (arith, count_by-cons y ys, one)
  counted-there (y ∷ ys) (suc i) x at e = omega (arith, count_by-cons y ys, counted-there ys i x at e)

  pub first_at : (xs : List X) (i : ℕ) (x : X) → slice_get xs i ≡ Some x → p x ≡ true → count_by p xs ≤ 1 → position_or_len p xs ≡ i
  first_at [] i x at e few = cc
  first_at (y ∷ ys) zero x at e few =
      let same : y ≡ x = cc in
      ap (λ z. cond (not (p z)) (1 + position_or_len p ys) 0) same ∙ ap (λ b. cond (not b) (1 + position_or_len p ys) 0) e
  first_at (y ∷ ys) (suc i) x at e few = by (p y) refl (first_at ys i x at e)
    where
      by : (b : Bool) → p y ≡ b → (count_by p ys ≤ 1 → position_or_len p ys ≡ i) → cond (not (p y)) (1 + position_or_len p ys) 0 ≡ suc i
      by true passes rest =
          let one : bit (p y) ≡ 1 = ap bit passes in
          absurd (omega (arith, count_by-cons y ys, one, counted-there ys i x at e))
      by false fails rest =
          let none : bit (p y) ≡ 0 = ap bit fails in
          let found : position_or_len p ys ≡ i = rest (omega (arith, count_by-cons y ys, none)) in
          ap (λ b. cond (not b) (1 + position_or_len p ys) 0) fails ∙ omega (arith, found)

  -- it is found where it stands
  pub position-once : (xs : List X) (i : ℕ) (x : X) → slice_get xs i ≡ Some x → p x ≡ true → count_by p xs ≤ 1 → position p xs ≡ Some i
  position-once xs i x at e few =
      ap (λ n. cond (nat_lt n (length xs)) (Some n) None) (first_at xs i x at e few)
      ∙ ap (λ b. cond b (Some i) None) (lt-ltb i (length xs) (slice_get_within xs i x at))

  none_counted : (xs : List X) → count_by p xs ≡ 0 → list_any p xs ≡ false
  none_counted [] e = refl
  none_counted (y ∷ ys) e = by (p y) refl (none_counted ys)
    where
      by : (b : Bool) → p y ≡ b → (count_by p ys ≡ 0 → list_any p ys ≡ false) → (p y || list_any p ys) ≡ false
      by true passes rest =
          let one : bit (p y) ≡ 1 = ap bit passes in
          absurd (omega (arith, count_by-cons y ys, one))
      by false fails rest =
          let none : bit (p y) ≡ 0 = ap bit fails in
          ap (λ b. b || list_any p ys) fails ∙ rest (omega (arith, count_by-cons y ys, none))

  -- before it no element passes
  pub none-before : (xs : List X) (i : ℕ) (d : X) → i < length xs → p (get_or xs i d) ≡ true → count_by p xs ≤ 1 → list_any p (take i xs) ≡ false
  none-before xs i d lt e few =
      none_counted (take i xs)
      (omega (arith, sum_by_more_le (λ x. cond (p x) 1 0) xs i d lt, ap bit e))

-- a list of different quantities, put into a set one by one
pub insert_key_next : (qs : List Quantity) (i : ℕ) (d : Quantity) → i < length qs → ((q : Quantity) → count_by (same_quantity q) qs ≤ 1)
    → insert_key are_equal (take i qs) (get_or qs i d) ≡ take (i + 1) qs
insert_key_next qs i d lt once =
    let q = get_or qs i d in
    let same : are_equal q ≡ same_quantity q = fun_ext (are_equal-same q) in
    let none : list_any (same_quantity q) (take i qs) ≡ false = none-before (same_quantity q) qs i d lt (same_quantity-self q) (once q) in
    ap (λ b. if b then take i qs else take i qs ++ q ∷ []) (ap (λ test. list_any test (take i qs)) same ∙ none)
    ∙ sym (take_more qs i d lt)
