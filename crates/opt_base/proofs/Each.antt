-- Steps of a loop that goes over the records of a table one by one: what is left at place i is read as each says.
use Rattle.std.proofs.Common.{◌≡◌, ℕ, ◌+◌, ◌<◌, ◌≤◌, List, length, get_or, drop, Result, Ok, Err, ap, ◌∙◌, add-one, drop-cons}
use Rattle.std.proofs.Math.ListN.{drop_of_length-le}
use Rattle.opt_base.specs.declared.refusal.Refusal.{Refusal}
use Rattle.opt_base.specs.declared.refusal.ModelFault.{ModelFault}
use Rattle.opt_base.specs.declared.refusal.ModelFault.TheVariants.{Refused, OutOfMemory}
use Rattle.opt_base.specs.Answers.{◌>>=◌, Fails, each}

module _ {A S E : Type 0} (step : ℕ → A → S → Result S E) where
  -- what is left is the record at hand and the rest
  pub each_next : (number : ℕ) (made : S) (xs : List A) (i : ℕ) (d : A) → i < length xs
      → each step number made (drop i xs) ≡ (step number (get_or xs i d) made >>= λ more. each step (number + 1) more (drop (i + 1) xs))
  each_next number made xs i d within = rw (add-one i) (ap (each step number made) (drop-cons xs i d within))

  -- a record is taken, and the loop goes on
  pub each_goes_on : (number : ℕ) (made more : S) (xs : List A) (i : ℕ) (d : A) → i < length xs
      → step number (get_or xs i d) made ≡ Ok more
      → each step number made (drop i xs) ≡ each step (number + 1) more (drop (i + 1) xs)
  each_goes_on number made more xs i d within taken =
      each_next number made xs i d within ∙ ap (λ read. read >>= λ more. each step (number + 1) more (drop (i + 1) xs)) taken

  -- a record is a fault, and so is the whole
  pub each_fails : (number : ℕ) (made : S) (fault : E) (xs : List A) (i : ℕ) (d : A) → i < length xs
      → step number (get_or xs i d) made ≡ Err fault
      → each step number made (drop i xs) ≡ Err fault
  each_fails number made fault xs i d within failed =
      each_next number made xs i d within ∙ ap (λ read. read >>= λ more. each step (number + 1) more (drop (i + 1) xs)) failed

  -- no record is left
  pub each_done : (number : ℕ) (made : S) (xs : List A) (i : ℕ) → length xs ≤ i → each step number made (drop i xs) ≡ Ok made
  each_done number made xs i past = ap (each step number made) (drop_of_length-le xs past)

-- a fault of a record, want of memory included, is one of the whole
pub Fails-each : {A S : Type 0} (step : ℕ → A → S → Result S Refusal) (number : ℕ) (made : S) (xs : List A) (i : ℕ) (d : A) (fault : ModelFault) → i < length xs
    → Fails fault (step number (get_or xs i d) made) → Fails fault (each step number made (drop i xs))
Fails-each step number made xs i d OutOfMemory within failed = tt
Fails-each step number made xs i d (Refused refusal) within failed = each_fails step number made refusal xs i d within failed
