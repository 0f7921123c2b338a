-- Tests of numbers that fit, and what they say.
use Rattle.std.proofs.Common.{◌≡◌, ℤ, ◌+ℤ◌, Option, Some, None, Bool, true, false, ◌&&◌, refl, FitsSigned, arith}
use Rattle.std.specs.Option.{SomeIff}
use Rattle.std.proofs.lemmas.Int.{to_z-of_z, fits_signed_from_abs}
use Rattle.std.proofs.lemmas.Bool.Decides.{nat_tests}
use mir.Syntax.{w128}
use mir.Val.{to_z, of_z}
use Rattle.opt_frac.specs.Divisors.{Fits, fits}
use Rattle.opt_frac.specs.Merging.{IsSum}

pub fits_is : (z : ℤ) → Fits z → fits z ≡ true
fits_is z h = grind (arith, nat_tests)

pub unfit_is : (z : ℤ) → (Fits z → ⊥) → fits z ≡ false
unfit_is z h = grind (arith, nat_tests)

pub Fits-test : (z : ℤ) → fits z ≡ true → Fits z
Fits-test z h = grind (arith, nat_tests)

pub and_true : (a b : Bool) → a ≡ true → b ≡ true → (a && b) ≡ true
and_true a b h k = rw (h, k) refl

pub and_false_left : (a b : Bool) → a ≡ false → (a && b) ≡ false
and_false_left a b h = rw h refl

pub and_false_right : (a b : Bool) → b ≡ false → (a && b) ≡ false
and_false_right true b h = h
and_false_right false b h = refl

pub and_left : (a b : Bool) → (a && b) ≡ true → a ≡ true
and_left true b h = refl
and_left false b h = h

pub and_right : (a b : Bool) → (a && b) ≡ true → b ≡ true
and_right true b h = h
and_right false b h = cc

pub signed : (z : ℤ) → Fits z → FitsSigned w128 z
signed z h = fits_signed_from_abs w128 z h

-- a sum of two products that fit
sum_of : (r : Option ℤ) (a b : ℤ) → Fits a → Fits b → SomeIff r (Fits (a +ℤ b)) (a +ℤ b) → IsSum r a b
sum_of None a b h k is = and_false_right (fits a) _ (and_false_right (fits b) _ (unfit_is (a +ℤ b) is))
sum_of (Some z) a b h k is = (and_true (fits a) _ (fits_is a h) (and_true (fits b) _ (fits_is b k) (fits_is (a +ℤ b) is.0)), is.1)

pub IsSum-products : (r : Option ℤ) (a b x y : ℤ) → Fits a → x ≡ a → Fits b → y ≡ b → SomeIff r (Fits (to_z w128 (of_z w128 x) +ℤ to_z w128 (of_z w128 y))) (to_z w128 (of_z w128 x) +ℤ to_z w128 (of_z w128 y)) → IsSum r a b
IsSum-products r a b x y h e k d is =
    sum_of r a b h k (rw (e, d, to_z-of_z w128 a (signed a h), to_z-of_z w128 b (signed b k)) at is)

pub IsSum-first : (r : Option ℤ) (a b : ℤ) → (Fits a → ⊥) → r ≡ None → IsSum r a b
IsSum-first r a b h e = rw e (and_false_left (fits a) _ (unfit_is a h))

pub IsSum-second : (r : Option ℤ) (a b : ℤ) → (Fits b → ⊥) → r ≡ None → IsSum r a b
IsSum-second r a b h e = rw e (and_false_right (fits a) _ (and_false_left (fits b) _ (unfit_is b h)))
