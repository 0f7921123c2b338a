-- Numbers of 128 bits cut to multipliers: all divided by one power of 2, as small as will do.
use Rattle.std.specs.Prelude.{◌≡◌, ℕ, ◌/◌, ◌^◌, ◌≤◌, ◌==◌, List, [], All, map, filter, ℤ, pos, ◌<ℤ◌, unsigned_abs, int_div, not}
use Rattle.opt_system.specs.Systems.{System}
use Rattle.opt_bound.specs.declared.limits.TheConstants.{MULTIPLIER_LIMIT}
use Rattle.opt_bound.specs.Multipliers.{Multipliers, IsFitting, IsAdmissible}

-- the number divided by 2^s, toward zero
abbrev pub cut : ℤ → ℕ → ℤ
cut z s = int_div z (pos (2 ^ s))

-- each size divided by 2^s and cut toward zero is at most the limit
pub record FitsBy (q : ℤ) (entries : List (ℕ × ℤ)) (s : ℕ) : Type 0 where
  pub objective : unsigned_abs q / 2 ^ s ≤ MULTIPLIER_LIMIT
  pub each : All (λ e. unsigned_abs e.1 / 2 ^ s ≤ MULTIPLIER_LIMIT) entries

-- s is the least with which each size fits
pub record IsShift (q : ℤ) (entries : List (ℕ × ℤ)) (s : ℕ) : Type 0 where
  pub fits : FitsBy q entries s
  pub least : (t : ℕ) → FitsBy q entries t → s ≤ t

-- the entries divided by 2^s toward zero, without those that become 0
abbrev pub cut_entries : ℕ → List (ℕ × ℤ) → List (ℕ × ℤ)
cut_entries s entries = filter (λ e. not (unsigned_abs e.1 == 0)) (map (λ e. (e.0, cut e.1 s)) entries)

-- the multipliers are these numbers divided by 2^s, or the objective alone where q was above 0 and becomes 0
pub record AreCutBy (q : ℤ) (entries : List (ℕ × ℤ)) (s : ℕ) (m : Multipliers) : Type 0 where
  pub lost : pos 0 <ℤ q → cut q s ≡ pos 0 → m ≡ record { q = pos 1; entries = [] }
  pub kept : ¬ ((pos 0 <ℤ q) × (cut q s ≡ pos 0)) → m ≡ record { q = cut q s; entries = cut_entries s entries }

-- the multipliers are the clip of these numbers
abbrev pub IsClip : ℤ → List (ℕ × ℤ) → Multipliers → Type 0
IsClip q entries m = (s : ℕ) × IsShift q entries s × AreCutBy q entries s m

-- the size is the largest of these numbers
pub record IsLargest (q : ℤ) (entries : List (ℕ × ℤ)) (size : ℕ) : Type 0 where
  pub objective : unsigned_abs q ≤ size
  pub each : All (λ e. unsigned_abs e.1 ≤ size) entries
  pub reached : (most : ℕ) → unsigned_abs q ≤ most → All (λ e. unsigned_abs e.1 ≤ most) entries → size ≤ most

-- for each system for which these numbers are admissible, the multipliers are
abbrev pub KeepsAdmissible : List (ℕ × ℤ) → Multipliers → Type 0
KeepsAdmissible entries m = (p : System) → All (IsFitting p) entries → IsAdmissible p m
