-- What is left of a number by its digits, divided by another.
use Rattle.std.proofs.Common.{◌≡◌, ℕ, ◌+◌, ◌*◌, ◌-◌, ◌%◌, ◌/◌, ◌≤◌, ◌<◌, ◌^◌, ◌⊎◌, inl, inr, Bool, true, false, List, length, get_or, take, refl, sym, ap, ◌∙◌, arith}
use Rattle.std.specs.Char.{is_ascii_digit, digit_value}
use Rattle.std.specs.List.{list_all}
use Rattle.std.specs.Str.Parse.{digits_value}
use Rattle.std.proofs.Math.Nat.{add-mul-mod_self_right, mod-lt, mul_assoc, mul_comm, mul-le-mul}
use Rattle.std.proofs.lemmas.Bool.{and_parts, true≢false}
use Rattle.std.proofs.lemmas.Bool.Decides.{nat_tests}
use Rattle.std.proofs.lemmas.Int.Digits.{digits_value_more}
use Rattle.std.proofs.lemmas.List.Folds.{list_all_at}
use Rattle.std.proofs.lemmas.Nat.{div-add-mod'}
use Rattle.opt_tables.specs.Records.{is_number}

-- what is left of ten times a number and a digit is what is left of ten times its rest and the digit
pub rest_more : (n d v : ℕ) → ((n % d) * 10 + v) % d ≡ (n * 10 + v) % d
rest_more n d v =
    let split : (n / d) * d + n % d ≡ n = div-add-mod' n d in
    let tens : (n / d * 10) * d ≡ (n / d * d) * 10 = mul_assoc (n / d) 10 d ∙ (ap (λ k. n / d * k) (mul_comm 10 d) ∙ sym (mul_assoc (n / d) d 10)) in
    let whole : ((n % d) * 10 + v) + (n / d * 10) * d ≡ n * 10 + v = omega (arith, split, tens) in
    sym (ap (λ m. m % d) (sym whole) ∙ add-mul-mod_self_right ((n % d) * 10 + v) (n / d * 10) d)

-- a byte that is a digit, and its value
pub record IsDigit (byte : ℕ) : Type 0 where
  pub above : 48 ≤ byte
  pub below : byte ≤ 57
  pub value : digit_value byte ≡ byte - 48

pub digit_is : (byte : ℕ) → is_ascii_digit byte ≡ true → IsDigit byte
digit_is byte e = record { above = grind (arith, nat_tests); below = grind (arith, nat_tests); value = grind (arith, nat_tests) }

-- each byte of a number is a digit
pub digit_at : (text : List ℕ) (i d : ℕ) → is_number text ≡ true → i < length text → IsDigit (get_or text i d)
digit_at text i d e within = digit_is (get_or text i d) (by (is_ascii_digit (get_or text i d)) refl)
  where
    by : (b : Bool) → is_ascii_digit (get_or text i d) ≡ b → is_ascii_digit (get_or text i d) ≡ true
    by true f = f
    by false f = absurd (true≢false (sym (and_parts _ (list_all is_ascii_digit text) e).1 ∙ list_all_at is_ascii_digit text i d within f))

-- what is left of the first digits, and of one more
pub rest_next : (text : List ℕ) (i d rest v : ℕ) → is_number text ≡ true → i < length text → rest ≡ digits_value 10 (take i text) % d → v ≡ get_or text i 0 - 48
    → (rest * 10 + v) % d ≡ digits_value 10 (take (i + 1) text) % d
rest_next text i d rest v number within so_far is =
    ap (λ r. (r * 10 + v) % d) so_far
    ∙ (rest_more (digits_value 10 (take i text)) d v
    ∙ ap (λ n. n % d) (ap (λ w. digits_value 10 (take i text) * 10 + w) (is ∙ sym (digit_at text i 0 number within).value) ∙ sym (digits_value_more 10 text i within)))

-- a number of more than 64 bits comes to more units than any value has
pub too_many : (n u : ℕ) → 1 ≤ u → u ≤ 2000 → 2 ^ 64 ≤ n → 2 ^ 40 < n / u
too_many n u some few long = by (below_or_not (2 ^ 40) (n / u))
  where
    below_or_not : (a b : ℕ) → (a < b) ⊎ (b ≤ a)
    below_or_not a b = grind arith

    by : (2 ^ 40 < n / u) ⊎ (n / u ≤ 2 ^ 40) → 2 ^ 40 < n / u
    by (inl h) = h
    by (inr h) = absurd (omega (arith, div-add-mod' n u, mul-le-mul h few, mod-lt n some, long, few))
