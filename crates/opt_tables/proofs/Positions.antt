-- Where a test finds something in two lists, one after the other.
use Rattle.std.proofs.Common.{◌≡◌, ◌<◌, ◌≤◌, ◌+◌, ℕ, suc, Bool, true, false, nat_lt, cond, List, [], ◌∷◌, ◌++◌, length, position, Option, Some, None, option_map, refl, ap, arith}
use Rattle.std.proofs.lemmas.List.{length-append}
use Rattle.std.proofs.lemmas.Bool.Decides.{nat_tests}
use Rattle.std.proofs.lemmas.Option.{none-some, cond_some}
use Rattle.std.specs.List.{position_or_len}

-- one more before a list whose place in both is known
one_more : {X : Type 0} (p : X → Bool) (x : X) (xs ys : List X) (b : Bool) → p x ≡ b → (position_or_len p xs < length xs → position_or_len p (xs ++ ys) ≡ position_or_len p xs)
    → position_or_len p (x ∷ xs) < length (x ∷ xs) → position_or_len p (x ∷ xs ++ ys) ≡ position_or_len p (x ∷ xs)
one_more p x xs ys true e rest h = rw e refl
one_more p x xs ys false e rest h =
    let less : 1 + position_or_len p xs < length (x ∷ xs) = rw e at h in
    rw e (ap (λ n. 1 + n) (rest (omega (arith, less))))

-- in the first list
in_first : {X : Type 0} (p : X → Bool) (xs ys : List X) → position_or_len p xs < length xs → position_or_len p (xs ++ ys) ≡ position_or_len p xs
in_first p [] ys h = absurd (omega arith)
in_first p (x ∷ xs) ys h = one_more p x xs ys (p x) refl (in_first p xs ys) h

-- one more before a list that has none
none_more : {X : Type 0} (p : X → Bool) (x : X) (xs ys : List X) (b : Bool) → p x ≡ b → (length xs ≤ position_or_len p xs → position_or_len p (xs ++ ys) ≡ length xs + position_or_len p ys)
    → length (x ∷ xs) ≤ position_or_len p (x ∷ xs) → position_or_len p (x ∷ xs ++ ys) ≡ length (x ∷ xs) + position_or_len p ys
none_more p x xs ys true e rest h =
    let none : length (x ∷ xs) ≤ 0 = rw e at h in
    absurd (omega (arith, none))
none_more p x xs ys false e rest h =
    let less : length (x ∷ xs) ≤ 1 + position_or_len p xs = rw e at h in
    rw e (omega (arith, rest (omega (arith, less))))

-- or in the second
in_second : {X : Type 0} (p : X → Bool) (xs ys : List X) → length xs ≤ position_or_len p xs → position_or_len p (xs ++ ys) ≡ length xs + position_or_len p ys
in_second p [] ys h = omega arith
in_second p (x ∷ xs) ys h = none_more p x xs ys (p x) refl (in_second p xs ys) h

-- what is found in the first list is found there in both
pub position-first : {X : Type 0} (p : X → Bool) (xs ys : List X) (i : ℕ) → position p xs ≡ Some i → position p (xs ++ ys) ≡ Some i
position-first p xs ys i found =
    let at = cond_some (nat_lt (position_or_len p xs) (length xs)) _ _ found in
    let less : position_or_len p xs < length xs = grind (arith, nat_tests, at.0) in
    let inside : nat_lt (position_or_len p xs) (length (xs ++ ys)) ≡ true = grind (arith, nat_tests, less, length-append xs ys) in
    rw (in_first p xs ys less, inside) (ap Some at.1)

-- what is not is where the second list has it
pub position-second : {X : Type 0} (p : X → Bool) (xs ys : List X) → position p xs ≡ None → position p (xs ++ ys) ≡ option_map (λ n. length xs + n) (position p ys)
position-second p xs ys lacks = by (nat_lt (position_or_len p xs) (length xs)) refl
  where
    both : (b : Bool) (n : ℕ) → cond b (Some (length xs + n)) None ≡ option_map (λ k. length xs + k) (cond b (Some n) None)
    both true n = refl
    both false n = refl

    by : (b : Bool) → nat_lt (position_or_len p xs) (length xs) ≡ b → position p (xs ++ ys) ≡ option_map (λ n. length xs + n) (position p ys)
    by true e =
        let found : Some (position_or_len p xs) ≡ None = rw e at lacks in
        absurd (cc found)
    by false e =
        let past : length xs ≤ position_or_len p xs = grind (arith, nat_tests, e) in
        let same : nat_lt (length xs + position_or_len p ys) (length (xs ++ ys)) ≡ nat_lt (position_or_len p ys) (length ys) =
        grind (arith, nat_tests, length-append xs ys)
        in
        rw (in_second p xs ys past, same) (both (nat_lt (position_or_len p ys) (length ys)) (position_or_len p ys))
