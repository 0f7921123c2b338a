-- Sums of what is spent, quantity by quantity and month by month.
use Rattle.std.proofs.Common.{◌≡◌, ℕ, ◌+◌, ◌*◌, ◌^◌, ◌<◌, ◌≤◌, zero, suc, List, [], ◌∷◌, ◌++◌, length, take, get_or, Some, ℤ, pos, ◌+ℤ◌, ◌*ℤ◌, ◌≤ℤ◌, unsigned_abs, to_z, of_z, sym, ap, ◌∙◌, arith}
use Rattle.std.specs.Prelude.{slice_get}
use Rattle.std.specs.List.{range_with_len}
use Rattle.std.proofs.lemmas.Int.{ints}
use mir.Syntax.{w128}
use Rattle.std.proofs.lemmas.Option.{slice_get_within, slice_get-get_or}
use Rattle.std.proofs.Math.Nat.{mul-le-mul}
use Rattle.opt_model.specs.Quantities.{sum_over}
use Rattle.opt_model.specs.declared.quantity.Quantity.{Quantity}
use Rattle.opt_model.proofs.Sums.{sum_over-append, sum_over-take_more}
use Rattle.opt_sums.proofs.Ring.{size_mul}

-- a product of two sizes
pub product_size : (a b : ℤ) (m n : ℕ) → unsigned_abs a ≤ m → unsigned_abs b ≤ n → unsigned_abs (a *ℤ b) ≤ m * n
product_size a b m n h k = omega (arith, size_mul a b, mul-le-mul h k)

some_same : {A : Type 0} (x y : A) → Some x ≡ Some y → x ≡ y
some_same x y e = cc

-- the sum over the quantities so far, and one more
pub spent_more : (f : Quantity → ℤ) (qs : List Quantity) (i : ℕ) (q : Quantity) (sum value : ℤ) → Some q ≡ slice_get qs i
    → sum ≡ sum_over (take i qs) f → value ≡ f q → sum +ℤ value ≡ sum_over (take (i + 1) qs) f
spent_more f qs i q sum value there so_far more =
    let within : i < length qs = slice_get_within qs i q (sym there) in
    let here : get_or qs i q ≡ q = some_same (get_or qs i q) q (sym (slice_get-get_or qs i q within) ∙ sym there) in
    omega (arith, ints, sum_over-take_more f qs i q within, ap f here, so_far, more)

range-more : (a n : ℕ) → range_with_len a (n + 1) ≡ range_with_len a n ++ (a + n) ∷ []
range-more a zero = ap (λ k. k ∷ []) (omega arith)
range-more a (suc n) =
    let more : range_with_len (a + 1) (n + 1) ≡ range_with_len (a + 1) n ++ (a + suc n) ∷ [] = range-more (a + 1) n ∙ ap (λ k. range_with_len (a + 1) n ++ k ∷ []) (omega arith) in
    let next : suc n + 1 ≡ suc (n + 1) = omega arith in
    ap (range_with_len a) next ∙ ap (λ ks. a ∷ ks) more

-- the sum over the months so far, and one more
pub months_more : (f : ℕ → ℤ) (n : ℕ) → sum_over (range_with_len 1 (n + 1)) f ≡ sum_over (range_with_len 1 n) f +ℤ f (n + 1)
months_more f n =
    let last : f (1 + n) ≡ f (n + 1) = ap f (omega arith) in
    ap (λ ms. sum_over ms f) (range-more 1 n) ∙ omega (arith, ints, sum_over-append f (range_with_len 1 n) ((1 + n) ∷ []), last)

-- numbers and sums that 128 bits hold
pub same_wide : (a : ℤ) → unsigned_abs a ≤ 2 ^ 126 → to_z w128 (of_z w128 a) ≡ a
same_wide a h = omega (arith, ints)

pub sum_wide : (a b x y : ℤ) → x ≡ a → y ≡ b → unsigned_abs a ≤ 2 ^ 126 → unsigned_abs b ≤ 2 ^ 125 → to_z w128 (of_z w128 (x +ℤ y)) ≡ a +ℤ b
sum_wide a b x y p q h k = omega (arith, ints)
