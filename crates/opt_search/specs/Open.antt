-- The leaves of a search that are not closed, each by the lower bound that is shown of it and its number.
use Rattle.std.specs.Prelude.{◌≡◌, ℕ, List, Contains, ◌↔◌, ◌⊎◌, ℤ, ◌<ℤ◌}

-- one open leaf more
abbrev pub Adds : ℤ → ℕ → List (ℤ × ℕ) → List (ℤ × ℕ) → Type 0
Adds bound leaf old new = (b : ℤ) (i : ℕ) → (Contains new (b, i)) ↔ (((b ≡ bound) × (i ≡ leaf)) ⊎ Contains old (b, i))

-- one open leaf fewer
abbrev pub Removes : ℤ → ℕ → List (ℤ × ℕ) → List (ℤ × ℕ) → Type 0
Removes bound leaf old new = (b : ℤ) (i : ℕ) → (Contains new (b, i)) ↔ (Contains old (b, i) × ¬ ((b ≡ bound) × (i ≡ leaf)))

-- the leaves from this bound on are gone
abbrev pub KeepsBelow : ℤ → List (ℤ × ℕ) → List (ℤ × ℕ) → Type 0
KeepsBelow bound old new = (b : ℤ) (i : ℕ) → (Contains new (b, i)) ↔ (Contains old (b, i) × (b <ℤ bound))
