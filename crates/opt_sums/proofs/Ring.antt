-- The laws of the ring of the whole numbers that std lacks, products and their order, and sizes.
use Rattle.std.proofs.Common.{◌≡◌, ◌+◌, ◌*◌, ◌≤◌, ℤ, pos, negsuc, ◌+ℤ◌, ◌-ℤ◌, ◌*ℤ◌, neg_ℤ, ◌≤ℤ◌, unsigned_abs, ap, ◌∙◌, arith}
use Rattle.std.proofs.lemmas.Int.{ints, unsigned_abs-mul}
use Rattle.std.proofs.Math.Nat.{mul-le-mul_left}
use borrow.Author.Differences.{up, down, sum_is_lem, product_is, neg_is, le_out}

pub mul_add : (a b c : ℤ) → a *ℤ (b +ℤ c) ≡ (a *ℤ b) +ℤ (a *ℤ c)
mul_add a b c =
    omega (arith, ints, ap (λ n. up a * n) (sum_is_lem b c), ap (λ n. down a * n) (sum_is_lem b c))

pub add_mul : (a b c : ℤ) → (a +ℤ b) *ℤ c ≡ (a *ℤ c) +ℤ (b *ℤ c)
add_mul a b c =
    omega (arith, ints, ap (λ n. n * up c) (sum_is_lem a b), ap (λ n. n * down c) (sum_is_lem a b))

pub mul_neg : (a b : ℤ) → a *ℤ neg_ℤ b ≡ neg_ℤ (a *ℤ b)
mul_neg a b = omega (arith, ints, ap (λ n. up a * n) (neg_is b).0, ap (λ n. up a * n) (neg_is b).1, ap (λ n. down a * n) (neg_is b).0, ap (λ n. down a * n) (neg_is b).1)

pub neg_mul : (a b : ℤ) → neg_ℤ a *ℤ b ≡ neg_ℤ (a *ℤ b)
neg_mul a b = omega (arith, ints, ap (λ n. n * up b) (neg_is a).0, ap (λ n. n * up b) (neg_is a).1, ap (λ n. n * down b) (neg_is a).0, ap (λ n. n * down b) (neg_is a).1)

pub mul_sub : (a b c : ℤ) → a *ℤ (b -ℤ c) ≡ (a *ℤ b) -ℤ (a *ℤ c)
mul_sub a b c = mul_add a b (neg_ℤ c) ∙ ap (λ n. (a *ℤ b) +ℤ n) (mul_neg a c)

pub sub_mul : (a b c : ℤ) → (a -ℤ b) *ℤ c ≡ (a *ℤ c) -ℤ (b *ℤ c)
sub_mul a b c = add_mul a (neg_ℤ b) c ∙ ap (λ n. (a *ℤ c) +ℤ n) (neg_mul b c)

pub mul_assoc : (a b c : ℤ) → (a *ℤ b) *ℤ c ≡ a *ℤ (b *ℤ c)
mul_assoc a b c =
    omega (arith, ints, ap (λ n. n * up c) (product_is a b).0, ap (λ n. n * up c) (product_is a b).1, ap (λ n. n * down c) (product_is a b).0, ap (λ n. n * down c) (product_is a b).1, ap (λ n. up a * n) (product_is b c).0, ap (λ n. up a * n) (product_is b c).1, ap (λ n. down a * n) (product_is b c).0, ap (λ n. down a * n) (product_is b c).1)

-- a factor of at least 0 keeps the order
pub mul_le : (a b c : ℤ) → pos 0 ≤ℤ a → b ≤ℤ c → (a *ℤ b) ≤ℤ (a *ℤ c)
mul_le (pos n) b c h k =
    let p : n * (up b + down c) ≤ n * (up c + down b) = mul-le-mul_left n (le_out b c k) in
    omega (arith, ints)
mul_le (negsuc n) b c h k = omega (arith, ints)

-- a factor of at most 0 turns the order
pub mul_ge : (a b c : ℤ) → a ≤ℤ pos 0 → b ≤ℤ c → (a *ℤ c) ≤ℤ (a *ℤ b)
mul_ge (pos n) b c h k =
    let p : n * (up b + down c) ≤ n * (up c + down b) = mul-le-mul_left n (le_out b c k) in
    let z : n ≡ 0 = omega (arith, ints) in
    rw z (omega (arith, ints, product_is (pos 0) b, product_is (pos 0) c))
mul_ge (negsuc n) b c h k =
    let p : (n + 1) * (up b + down c) ≤ (n + 1) * (up c + down b) = mul-le-mul_left (n + 1) (le_out b c k) in
    omega (arith, ints)

-- ---- sizes
pub size_add : (a b : ℤ) → unsigned_abs (a +ℤ b) ≤ unsigned_abs a + unsigned_abs b
size_add a b = omega (arith, ints)

pub size_sub : (a b : ℤ) → unsigned_abs (a -ℤ b) ≤ unsigned_abs a + unsigned_abs b
size_sub a b = omega (arith, ints)

pub size_mul : (a b : ℤ) → unsigned_abs (a *ℤ b) ≡ unsigned_abs a * unsigned_abs b
size_mul = unsigned_abs-mul

-- from 0 on the size does not fall
pub size_le : (a b : ℤ) → pos 0 ≤ℤ a → a ≤ℤ b → unsigned_abs a ≤ unsigned_abs b
size_le a b h k = omega (arith, ints)
