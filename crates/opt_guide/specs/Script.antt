-- What a guide by script still has to say.
use Rattle.std.specs.Prelude.{ℕ, List, [], ◌∷◌, ℤ, pos, Option, drop}
use Rattle.opt_bound.specs.Multipliers.{Multipliers}

-- four lists, one for each call, in the order in which they will be said
pub record Script : Type 0 where
  pub multipliers : List Multipliers
  pub candidates : List (Option (List ℤ))
  pub cuts : List (ℕ × ℤ)
  pub picks : List ℕ

-- the objective alone, taken once
abbrev pub trivial : Multipliers
trivial = record { q = pos 1; entries = [] }

-- what is said next: the first of the list, or this where the list has ended
abbrev pub next_or : {A : Type 0} → A → List A → A
next_or other [] = other
next_or other (x ∷ xs) = x

-- what is said after that
abbrev pub rest_of : {A : Type 0} → List A → List A
rest_of xs = drop 1 xs
