-- What a fold over the records of a table has made, once it went to the end.
use Rattle.std.proofs.Common.{◌≡◌, ℕ, zero, suc, ◌+◌, ◌<◌, Bool, true, false, List, [], ◌∷◌, ◌++◌, length, get_or, Result, Ok, Err, refl, ap, sym, ◌∙◌, subst, arith, append_assoc, append-nil}
use Rattle.std.specs.Prelude.{if◌then◌else◌}
use Rattle.opt_base.specs.Answers.{◌>>=◌, each}

-- the value on which a reading went on
pub bind_ok : {A B E : Type 0} (read : Result A E) (f : A → Result B E) (y : B) → (read >>= f) ≡ Ok y → (x : A) × (read ≡ Ok x) × (f x ≡ Ok y)
bind_ok (Ok x) f y e = (x, refl, e)
bind_ok (Err r) f y e = cc

-- a reading that goes on where a test holds
pub when_ok : {A E : Type 0} (test : Bool) (read : Result A E) (fault : E) (y : A) → (if test then read else Err fault) ≡ Ok y → (test ≡ true) × (read ≡ Ok y)
when_ok true read fault y e = (refl, e)
when_ok false read fault y e = cc

-- one that goes on where a test does not hold
pub unless_ok : {A E : Type 0} (test : Bool) (read : Result A E) (fault : E) (y : A) → (if test then Err fault else read) ≡ Ok y → (test ≡ false) × (read ≡ Ok y)
unless_ok true read fault y e = cc
unless_ok false read fault y e = (refl, e)

module _ {A S E : Type 0} (step : ℕ → A → S → Result S E) where
  -- what each record keeps, all of them keep
  pub each_keeps : (P : S → Type 0) → ((number : ℕ) (x : A) (made more : S) → step number x made ≡ Ok more → P made → P more)
      → (number : ℕ) (made all : S) (xs : List A) → each step number made xs ≡ Ok all → P made → P all
  each_keeps P keeps number made all [] e holds = let same : made ≡ all = cc in subst P same holds
  each_keeps P keeps number made all (x ∷ xs) e holds =
      let taken = bind_ok (step number x made) (λ more. each step (number + 1) more xs) all e in
      each_keeps P keeps (number + 1) taken.0 all xs taken.2 (keeps number x made taken.0 taken.1 holds)

-- what a list gained, one element for each record: the elements, and what each has of its record and the record's number
pub record Gained {A B : Type 0} (R : ℕ → A → B → Type 0) (number : ℕ) (old new : List B) (xs : List A) : Type 0 where
  pub gain : List B
  pub joined : new ≡ old ++ gain
  pub long : length gain ≡ length xs
  pub at : (k : ℕ) (d : A) (e : B) → k < length xs → R (number + k) (get_or xs k d) (get_or gain k e)

-- what one record added to a list
pub record Added {A B : Type 0} (R : ℕ → A → B → Type 0) (number : ℕ) (old new : List B) (x : A) : Type 0 where
  pub one : B
  pub joined : new ≡ old ++ one ∷ []
  pub at : R number x one

module _ {A B : Type 0} (R : ℕ → A → B → Type 0) where
  gained_at : (number : ℕ) (x : A) (xs : List A) (one : B) (gain : List B) → R number x one
      → ((k : ℕ) (d : A) (e : B) → k < length xs → R (number + 1 + k) (get_or xs k d) (get_or gain k e))
      → (k : ℕ) (d : A) (e : B) → k < length (x ∷ xs) → R (number + k) (get_or (x ∷ xs) k d) (get_or (one ∷ gain) k e)
  gained_at number x xs one gain first others zero d e within =
      let same : number ≡ number + 0 = omega arith in subst (λ n. R n x one) same first
  gained_at number x xs one gain first others (suc k) d e within =
      let same : number + 1 + k ≡ number + suc k = omega arith in
      let inside : k < length xs = omega arith in
      subst (λ n. R n (get_or xs k d) (get_or gain k e)) same (others k d e inside)

  pub Gained-none : (number : ℕ) (old new : List B) → old ≡ new → Gained R number old new []
  Gained-none number old new same = record { gain = []; joined = sym same ∙ sym (append-nil old); long = refl; at = λ k d e within. absurd (omega arith) }

  pub Gained-more : (number : ℕ) (old more new : List B) (x : A) (xs : List A) → Added R number old more x → Gained R (number + 1) more new xs → Gained R number old new (x ∷ xs)
  Gained-more number old more new x xs first others = record {
    gain = first.one ∷ others.gain;
    joined = others.joined ∙ (ap (λ (front : List B). front ++ others.gain) first.joined ∙ append_assoc old (first.one ∷ []) others.gain);
    long = ap suc others.long;
    at = gained_at number x xs first.one others.gain first.at others.at;
  }

module _ {A B S E : Type 0} (step : ℕ → A → S → Result S E) (view : S → List B) (R : ℕ → A → B → Type 0) where
  -- where each record adds an element to a list, all of them add as many
  pub each_adds : ((number : ℕ) (x : A) (made more : S) → step number x made ≡ Ok more → Added R number (view made) (view more) x)
      → (number : ℕ) (made all : S) (xs : List A) → each step number made xs ≡ Ok all → Gained R number (view made) (view all) xs
  each_adds adds number made all [] e = let same : made ≡ all = cc in Gained-none R number (view made) (view all) (ap view same)
  each_adds adds number made all (x ∷ xs) e =
      let taken = bind_ok (step number x made) (λ more. each step (number + 1) more xs) all e in
      Gained-more R number (view made) (view taken.0) (view all) x xs (adds number x made taken.0 taken.1) (each_adds adds (number + 1) taken.0 all xs taken.2)
