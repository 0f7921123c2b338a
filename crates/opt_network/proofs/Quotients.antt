-- Quotients rounded up, as they are computed.
use Rattle.std.proofs.Common.{◌≡◌, zero, suc, ◌+◌, ◌*◌, ◌/◌, ◌%◌, ℕ, ℤ, pos, negsuc, ◌+ℤ◌, ◌-ℤ◌, ◌≤ℤ◌, neg_ℤ, int_div, refl, ◌∙◌, ap, sym, arith, lit<, mod-lt}
use Rattle.std.proofs.lemmas.Int.{ints}
use Rattle.std.proofs.Math.Nat.{div-add-mod}
use Rattle.std.proofs.lemmas.Nat.{div-mul-add}
use Rattle.opt_model.specs.Quantities.{ceil_div}

up : (k j : ℕ) → (suc k + j) / suc j ≡ suc (k / suc j)
up k j =
    let more : suc (k / suc j) * suc j ≡ suc j + k / suc j * suc j = grind arith in
    let split : suc k + j ≡ suc (k / suc j) * suc j + k % suc j = omega (arith, more, div-add-mod k (suc j)) in
    ap (λ n. n / suc j) split ∙ div-mul-add (suc (k / suc j)) (suc j) (k % suc j) (mod-lt k {m = suc j} (omega arith))

-- grams in kilograms
pub thousandths_up : (x : ℤ) → pos 0 ≤ℤ x → int_div (x +ℤ pos 999) (pos 1000) ≡ ceil_div x (pos 1000)
thousandths_up (pos zero) h = refl
thousandths_up (pos (suc k)) h =
    let split : suc k + 999 ≡ suc (k / 1000) * 1000 + k % 1000 = omega (arith, div-add-mod k 1000) in
    ap (λ n. pos (n / 1000)) split ∙ ap pos (div-mul-add (suc (k / 1000)) 1000 (k % 1000) (mod-lt k {m = 1000} (lit< tt)))
thousandths_up (negsuc k) h = absurd (omega (arith, ints))

-- grams in steps
pub rounded_up : (x s : ℤ) → pos 0 ≤ℤ x → pos 1 ≤ℤ s → int_div (x +ℤ (s -ℤ pos 1)) s ≡ ceil_div x s
rounded_up (pos zero) (pos (suc j)) low some =
    let less : pos (suc j) -ℤ pos 1 ≡ pos j = omega (arith, ints) in
    let above : 0 + j ≡ 0 * suc j + j = omega arith in
    let none : 0 ≡ 0 * suc j + 0 = omega arith in
    let sum : (0 + j) / suc j ≡ 0 = ap (λ n. n / suc j) above ∙ div-mul-add 0 (suc j) j (omega arith) in
    let zero : 0 / suc j ≡ 0 = ap (λ n. n / suc j) none ∙ div-mul-add 0 (suc j) 0 (omega arith) in
    ap (λ z. int_div (pos 0 +ℤ z) (pos (suc j))) less ∙ (ap pos sum ∙ sym (ap (λ n. neg_ℤ (pos n)) zero))
rounded_up (pos (suc k)) (pos (suc j)) low some =
    let less : pos (suc j) -ℤ pos 1 ≡ pos j = omega (arith, ints) in
    ap (λ z. int_div (pos (suc k) +ℤ z) (pos (suc j))) less ∙ ap pos (up k j)
rounded_up (pos x) (pos zero) low some = absurd (omega (arith, ints))
rounded_up (pos x) (negsuc s) low some = absurd (omega (arith, ints))
rounded_up (negsuc x) s low some = absurd (omega (arith, ints))
