-- Numbers of 128 bits: which products fit.
use Rattle.std.proofs.Common.{◌*◌, ◌^◌, ◌≤◌, ◌<◌, ℤ, ◌*ℤ◌, unsigned_abs, arith}
use Rattle.std.proofs.lemmas.Int.{unsigned_abs-mul}
use Rattle.std.proofs.Math.Nat.{mul-le-mul_left}

-- the product of two numbers of 64 bits
pub short_product : (a b : ℤ) → unsigned_abs a ≤ 2 ^ 63 → unsigned_abs b ≤ 2 ^ 63 → unsigned_abs (a *ℤ b) < 2 ^ 127
short_product a b h k =
    let left : unsigned_abs a * unsigned_abs b ≤ unsigned_abs a * 2 ^ 63 = mul-le-mul_left (unsigned_abs a) k in
    omega (arith, unsigned_abs-mul a b)
