-- Answers that are a value or the first fault, and folds over the records of a table.
use Rattle.std.specs.Prelude.{◌≡◌, ℕ, ◌+◌, List, [], ◌∷◌, Result, Ok, Err}
use Rattle.opt_base.specs.declared.refusal.Refusal.{Refusal}
use Rattle.opt_base.specs.declared.refusal.ModelFault.{ModelFault}
use Rattle.opt_base.specs.declared.refusal.ModelFault.TheVariants.{Refused, OutOfMemory}

-- go on with the value, or stop at the fault
infixl 10 ◌>>=◌
abbrev pub ◌>>=◌ : {A B E : Type 0} → Result A E → (A → Result B E) → Result B E
(Ok x) >>= f = f x
(Err e) >>= f = Err e

-- what is read is this fault, where it is a refusal; of want of memory nothing is said
abbrev pub Fails : {Y : Type 0} → ModelFault → Result Y Refusal → Type 0
Fails OutOfMemory read = Unit {0}
Fails (Refused refusal) read = read ≡ Err refusal

-- a call's answer, seen by view, is what reading gives, unless memory ran out
abbrev pub Gives : {X Y : Type 0} → (X → Y) → Result X ModelFault → Result Y Refusal → Type 0
Gives view (Ok x) read = read ≡ Ok (view x)
Gives view (Err fault) read = Fails fault read

-- the answer of a call that takes no memory, seen by view, is what reading gives
abbrev pub Reads : {X Y E : Type 0} → (X → Y) → Result X E → Result Y E → Type 0
Reads view (Ok x) read = read ≡ Ok (view x)
Reads view (Err fault) read = read ≡ Err fault

-- the records one by one, with their numbers, each seeing what the earlier ones made, up to the first fault
abbrev pub each : {A S E : Type 0} → (ℕ → A → S → Result S E) → ℕ → S → List A → Result S E
each step number made [] = Ok made
each step number made (x ∷ xs) = step number x made >>= λ more. each step (number + 1) more xs
