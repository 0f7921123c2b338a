-- Weights that suit the end at which a variable rests, by their signs.
use Rattle.std.proofs.Common.{◌≡◌, ◌⊎◌, inl, inr, Bool, true, false, ℤ, pos, negsuc, ◌≤ℤ◌, Option, Some, None, refl, ap, sym, arith}
use Rattle.std.specs.Ordering.{int_eq}
use Rattle.std.proofs.lemmas.Int.{ints}
use Rattle.std.proofs.lemmas.Bool.{not-false, not-true, both_ways}
use Rattle.std.proofs.lemmas.Bool.Decides.{Decides-int_eq}
use Rattle.opt_simplex.specs.Variables.{end_of_range, is_free}
use Rattle.opt_simplex.proofs.Bridge.{Suits}
use Rattle.opt_simplex.proofs.Signs.{signed}

-- there is a high
abbrev pub IsThere : Option ℤ → Type 0
IsThere high = (h : ℤ) × (high ≡ Some h)

from_zero_or_not : (z : ℤ) → (pos 0 ≤ℤ z) ⊎ (z ≤ℤ pos 0)
from_zero_or_not (pos n) = inl (omega (arith, ints))
from_zero_or_not (negsuc n) = inr (omega (arith, ints))

-- each weight suits a variable of one value
pub suits_fixed : (flag : Bool) (weight low : ℤ) (high : Option ℤ) → is_free low high ≡ false → Suits weight low high (end_of_range flag low high)
suits_fixed flag weight low None h = cc
suits_fixed flag weight low (Some top) h =
    let same : low ≡ top = (Decides-int_eq low top).0 (not-false (int_eq low top) h) in
    by_flag flag same (from_zero_or_not weight)
  where
    by_flag : (flag : Bool) → low ≡ top → (pos 0 ≤ℤ weight) ⊎ (weight ≤ℤ pos 0) → Suits weight low (Some top) (end_of_range flag low (Some top))
    by_flag true same (inl s) = inl (sym same, s)
    by_flag true same (inr s) = inr (refl, s)
    by_flag false same (inl s) = inl (refl, s)
    by_flag false same (inr s) = inr (ap Some (sym same), s)

-- a variable whose low is its high is not free
fixed : (low : ℤ) (high : Option ℤ) → high ≡ Some low → is_free low high ≡ true → ⊥
fixed low None h k = cc
fixed low (Some top) h k =
    let same : low ≡ top = cc in
    both_ways (int_eq low top) (not-true (int_eq low top) k) ((Decides-int_eq low top).1 same)

-- a weight that suits a free variable has the sign of its end
pub suits_sign : (flag : Bool) (weight low : ℤ) (high : Option ℤ) → is_free low high ≡ true → (flag ≡ true → IsThere high)
    → Suits weight low high (end_of_range flag low high) → pos 0 ≤ℤ signed flag weight
suits_sign false weight low high free there (inl s) = s.1
suits_sign false weight low high free there (inr s) = absurd (fixed low high s.0 free)
suits_sign true weight low None free there s = absurd (none (there refl))
  where
    none : IsThere None → ⊥
    none h = let e : None ≡ Some h.0 = h.1 in cc
suits_sign true weight low (Some top) free there (inl s) = absurd (fixed low (Some top) (ap Some s.0) free)
suits_sign true weight low (Some top) free there (inr s) = omega (arith, ints, s.1)

-- a weight with the sign of the end suits
pub suits_end : (flag : Bool) (weight low : ℤ) (high : Option ℤ) → (flag ≡ true → IsThere high) → pos 0 ≤ℤ signed flag weight
    → Suits weight low high (end_of_range flag low high)
suits_end false weight low high there s = inl (refl, s)
suits_end true weight low None there s = absurd (none (there refl))
  where
    none : IsThere None → ⊥
    none h = let e : None ≡ Some h.0 = h.1 in cc
suits_end true weight low (Some top) there s = inr (refl, omega (arith, ints, s))

-- a weight of 0 suits each end
pub suits_zero : (flag : Bool) (weight low : ℤ) (high : Option ℤ) → weight ≡ pos 0 → Suits weight low high (end_of_range flag low high)
suits_zero false weight low high h = inl (refl, omega (arith, ints))
suits_zero true weight low None h = inl (refl, omega (arith, ints))
suits_zero true weight low (Some top) h = inr (refl, omega (arith, ints))
