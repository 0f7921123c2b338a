-- The value of digits that is kept below a limit.
use Rattle.std.proofs.Common.{◌≡◌, ℕ, ◌+◌, ◌-◌, ◌*◌, ◌^◌, ◌<◌, ◌≤◌, Bool, true, false, ◌&&◌, cond, min, List, [], ◌∷◌, drop, get_or, length, Option, Some, None, refl, sym, ap, ◌∙◌, arith}
use Rattle.std.proofs.lemmas.Str.{digit_value_digit}
use Rattle.std.proofs.lemmas.Str.Parse.{tells_all_ascii_digits}
use Rattle.std.specs.Char.{is_ascii_digit, digit_value}
use Rattle.std.specs.Str.{all_ascii_digits}
use Rattle.std.specs.Str.Parse.{digits_value, digits_value_after}

-- the limit may be applied at any time
capped_after : (cap n : ℕ) (ds : List ℕ) → min (digits_value_after 10 (min n cap) ds) cap ≡ min (digits_value_after 10 n ds) cap
capped_after cap n [] = omega arith
capped_after cap n (d ∷ ds) =
    let same : min (min n cap * 10 + digit_value d) cap ≡ min (n * 10 + digit_value d) cap = omega arith in
    sym (capped_after cap (min n cap * 10 + digit_value d) ds)
    ∙ ap (λ k. min (digits_value_after 10 k ds) cap) same
    ∙ capped_after cap (n * 10 + digit_value d) ds

-- what the digits so far and those that are left spell
abbrev pub value_on : ℕ → List ℕ → Option ℕ
value_on n ds = cond (all_ascii_digits ds) (Some (min (digits_value_after 10 n ds) (2 ^ 128 - 1))) None

-- one digit more
pub value_on-digit : (n d m : ℕ) (ds : List ℕ) → is_ascii_digit d ≡ true → m ≡ min (min (n * 10) (2 ^ 128 - 1) + (d - 48)) (2 ^ 128 - 1) → value_on m ds ≡ value_on n (d ∷ ds)
value_on-digit n d m ds h e =
    let range = tells_all_ascii_digits.parts d [] (ap (λ b. b && true) h) in
    let value : digit_value d ≡ d - 48 = omega (arith, digit_value_digit d range.0) in
    let capped : m ≡ min (n * 10 + digit_value d) (2 ^ 128 - 1) = omega (arith, value) in
    let X : ℕ → Option ℕ = λ k. Some (min (digits_value_after 10 k ds) (2 ^ 128 - 1)) in
    ap (λ k. cond (all_ascii_digits ds) (X k) None) capped
    ∙ ap (λ v. cond (all_ascii_digits ds) (Some v) None) (capped_after (2 ^ 128 - 1) (n * 10 + digit_value d) ds)
    ∙ ap (λ b. cond (b && all_ascii_digits ds) (X (n * 10 + digit_value d)) None) (sym h)

pub value_on-other : (n d : ℕ) (ds : List ℕ) → is_ascii_digit d ≡ false → value_on n (d ∷ ds) ≡ None
value_on-other n d ds h =
    ap (λ b. cond (b && all_ascii_digits ds) (Some (min (digits_value_after 10 (n * 10 + digit_value d) ds) (2 ^ 128 - 1))) None) h
