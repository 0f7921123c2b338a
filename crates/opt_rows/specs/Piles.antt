-- Items that are sorted into piles by number.
use Rattle.std.specs.Prelude.{◌≡◌, ℕ, ◌<◌, List, [], ◌++◌, length, slice_index_or, Option, Some, None}
use Rattle.std.specs.List.{slice_set}

-- the pile of a number, or none past the end
abbrev pub pile_at : {A : Type 0} → List (List A) → ℕ → List A
pile_at piles number = slice_index_or piles number []

-- the piles with more items at a number
abbrev pub pile_with : {A : Type 0} → List (List A) → ℕ → List A → List (List A)
pile_with piles number items = slice_set piles number (pile_at piles number ++ items)

-- a pile for each number below a count, with these items
pub record ArePiles {A : Type 0} (count : ℕ) (items : ℕ → List A) (piles : List (List A)) : Type 0 where
  pub each : length piles ≡ count
  pub filled : (k : ℕ) → k < count → pile_at piles k ≡ items k

-- the same where there is a number
abbrev pub pile_in : {A : Type 0} → List (List A) → Option ℕ → List A → List (List A)
pile_in piles None items = piles
pile_in piles (Some number) items = pile_with piles number items
