-- Numbers below 10^64 and their one spelling.
use Rattle.std.proofs.Common.{◌≡◌, ℕ, zero, suc, ◌+◌, ◌*◌, ◌/◌, ◌%◌, ◌^◌, ◌<◌, ◌≤◌, ◌==◌, eqb, Bool, true, false, ◌&&◌, ◌||◌, not, cond, List, [], ◌∷◌, ◌++◌, length, get_or, Option, Some, None, ℤ, pos, negsuc, ◌≤ℤ◌, unsigned_abs, All, ◌⊎◌, ⊎_elim, inl, inr, refl, sym, ap, ◌∙◌, subst, arith}
use mathlib.Core.List.{append_assoc, append-nil}
use Rattle.std.specs.Option.{option_map, option_and_then}
use Rattle.std.specs.Char.{digit_value}
use Rattle.std.specs.Fmt.{decimal, signed_decimal}
use Rattle.std.specs.Int.{IsInRange}
use Rattle.std.specs.Str.{all_ascii_digits}
use Rattle.std.specs.Str.Parse.{AllDigits, IsNumeral, digits_value, digits_value_after}
use Rattle.std.proofs.lemmas.Int.{ints}
use Rattle.std.proofs.lemmas.Bool.Decides.{nat_tests}
use Rattle.std.proofs.lemmas.List.Elements.{All-nil, All-cons}
use Rattle.std.proofs.lemmas.Str.{digit_value_digit}
use Rattle.std.proofs.lemmas.Str.Parse.{digit_from_value, tells_all_ascii_digits}
use Rattle.std.proofs.lemmas.Fmt.{decimal_digit, decimal_step_wide, decimal_by_steps_wide, decimal_is_IsNumeral_wide}
use Rattle.opt_cert.specs.Numbers.{is_numeral, numeral, below_zero, signed_numeral, plain_numeral}
use Rattle.opt_cert.proofs.RangeLemmas.{and_true}

-- ---- a spelling is made of digits, and begins with 0 only where it is 0
record Leads (n : ℕ) (ds : List ℕ) : Type 0 where
  some : 0 < length ds
  first : 0 < n → 48 < get_or ds 0 0

head_stays : (ds : List ℕ) (x : ℕ) → 0 < length ds → get_or (ds ++ x ∷ []) 0 0 ≡ get_or ds 0 0
head_stays [] x h = absurd (omega arith)
head_stays (d ∷ ds) x h = refl

longer : (ds : List ℕ) (x : ℕ) → 0 < length (ds ++ x ∷ [])
longer [] x = omega arith
longer (d ∷ ds) x = omega arith

leads : (n : ℕ) → n < 10 ^ 64 → Leads n (decimal n)
leads n small =
    decimal_by_steps_wide Leads
    (λ m h. record { some = omega arith; first = λ p. omega arith })
    (λ m ds h l. record { some = longer ds (48 + m % 10); first = λ p. let q : 0 < m / 10 = omega arith in omega (arith, head_stays ds (48 + m % 10) l.some, l.first q) })
    n small

is_numeral_by : (ds : List ℕ) → all_ascii_digits ds ≡ true → 0 < length ds → (get_or ds 0 0 ≡ 48 → length ds ≡ 1) → is_numeral ds ≡ true
is_numeral_by [] all some lead = absurd (omega arith)
is_numeral_by (d ∷ ds) all some lead =
    ap (λ b. b && (not (d == 48) || length ds == 0)) all ∙ first (d == 48) refl
  where
    first : (b : Bool) → (d == 48) ≡ b → (not b || length ds == 0) ≡ true
    first true e = let one = lead (let same : d ≡ 48 = grind (arith, nat_tests) in same) in let none : length ds ≡ 0 = omega (arith, one) in grind (arith, nat_tests)
    first false e = refl

all_digits : (ds : List ℕ) → AllDigits 10 ds → all_ascii_digits ds ≡ true
all_digits [] h = refl
all_digits (d ∷ ds) h = tells_all_ascii_digits.more d ds (digit_from_value d h.0) (all_digits ds h.1)

digits_all : (ds : List ℕ) → all_ascii_digits ds ≡ true → AllDigits 10 ds
digits_all [] h = tt
digits_all (d ∷ ds) h =
    let t = tells_all_ascii_digits.parts d ds h in
    (omega (arith, digit_value_digit d t.0, t.0), digits_all ds t.1)

one_zero : (n : ℕ) → n < 10 ^ 64 → get_or (decimal n) 0 0 ≡ 48 → length (decimal n) ≡ 1
one_zero zero small h = ap length (decimal_digit 0 (omega arith))
one_zero (suc n) small h = absurd (omega (arith, (leads (suc n) small).first (omega arith)))

pub numeral_decimal : (n : ℕ) → n < 10 ^ 64 → numeral (decimal n) ≡ Some n
numeral_decimal n small =
    let t = decimal_is_IsNumeral_wide n small in
    let spelled = is_numeral_by (decimal n) (all_digits (decimal n) t.0.1) (leads n small).some (one_zero n small) in
    ap (λ b. cond b (Some (digits_value 10 (decimal n))) None) spelled ∙ ap Some t.1

-- ---- the way back
le_value_after : (n : ℕ) (ds : List ℕ) → n ≤ digits_value_after 10 n ds
le_value_after n [] = omega arith
le_value_after n (c ∷ cs) = omega (arith, le_value_after (n * 10 + digit_value c) cs)

value_after : (n : ℕ) (ds : List ℕ) → 0 < n → AllDigits 10 ds → digits_value_after 10 n ds < 10 ^ 64 → decimal (digits_value_after 10 n ds) ≡ decimal n ++ ds
value_after n [] some d small = sym (append-nil (decimal n))
value_after n (c ∷ cs) some d small =
    let m : ℕ = n * 10 + digit_value c in
    let k = digit_value_digit c (digit_from_value c d.0) in
    let front : m / 10 ≡ n = omega (arith, d.0) in
    let end : 48 + m % 10 ≡ c = omega (arith, d.0) in
    value_after m cs (omega arith) d.1 small
    ∙ ap (λ x. x ++ cs) (decimal_step_wide m (omega arith) (omega (arith, le_value_after m cs)) ∙ (λ i. decimal (front i) ++ (end i ∷ [])))
    ∙ append_assoc (decimal n) (c ∷ []) cs

value_digits : (ds : List ℕ) → AllDigits 10 ds → 0 < length ds → (get_or ds 0 0 ≡ 48 → length ds ≡ 1) → digits_value 10 ds < 10 ^ 64 → decimal (digits_value 10 ds) ≡ ds
value_digits [] d some lead small = absurd (omega arith)
value_digits (c ∷ []) d some lead small =
    let k = digit_value_digit c (digit_from_value c d.0) in
    decimal_digit (0 * 10 + digit_value c) (omega (arith, d.0)) ∙ ap (λ x. x ∷ []) (omega arith)
value_digits (c ∷ e ∷ cs) d some lead small =
    let k = digit_value_digit c (digit_from_value c d.0) in
    let no : c ≡ 48 → ⊥ = λ z. omega (arith, lead z) in
    let is : 48 + (0 * 10 + digit_value c) ≡ c = omega arith in
    value_after (0 * 10 + digit_value c) (e ∷ cs) (omega arith) d.1 small
    ∙ ap (λ x. x ++ (e ∷ cs)) (decimal_digit (0 * 10 + digit_value c) (omega (arith, d.0)) ∙ ap (λ x. x ∷ []) is)

spelled_parts : (ds : List ℕ) → is_numeral ds ≡ true → (all_ascii_digits ds ≡ true) × (0 < length ds) × (get_or ds 0 0 ≡ 48 → length ds ≡ 1)
spelled_parts [] h = cc
spelled_parts (d ∷ ds) h =
    let t = and_true (all_ascii_digits (d ∷ ds)) (not (d == 48) || length ds == 0) h in (
      t.0,
      omega arith,
      λ e. let same : (d == 48) ≡ true = grind (arith, nat_tests) in
          let none : (length ds == 0) ≡ true = sym (ap (λ b. not b || length ds == 0) same) ∙ t.1 in
          let zero : length ds ≡ 0 = grind (arith, nat_tests) in omega (arith, zero),
    )

numeral_cases : (ds : List ℕ) (b : Bool) (n : ℕ) → is_numeral ds ≡ b → cond b (Some (digits_value 10 ds)) None ≡ Some n → (is_numeral ds ≡ true) × (n ≡ digits_value 10 ds)
numeral_cases ds true n e h = (e, cc)
numeral_cases ds false n e h = cc

pub decimal_numeral : (ds : List ℕ) (n : ℕ) → numeral ds ≡ Some n → n < 10 ^ 64 → decimal n ≡ ds
decimal_numeral ds n h small =
    let t = numeral_cases ds (is_numeral ds) n refl h in
    let p = spelled_parts ds t.0 in
    ap decimal t.1 ∙ value_digits ds (digits_all ds p.0) p.1 p.2 (omega (arith, t.1))

-- ---- signed numbers
digit_first : (ds : List ℕ) → all_ascii_digits ds ≡ true → 0 < length ds → signed_numeral ds ≡ plain_numeral ds
digit_first [] all some = absurd (omega arith)
digit_first (d ∷ ds) all some =
    let t = tells_all_ascii_digits.parts d ds all in
    let no : (d == 45) ≡ false = grind (arith, nat_tests, t.0) in
    ap (λ b. cond b (option_and_then below_zero (numeral ds)) (option_map pos (numeral (d ∷ ds)))) no

pub plain_decimal : (n : ℕ) → n < 10 ^ 64 → plain_numeral (signed_decimal (pos n)) ≡ Some (pos n)
plain_decimal n small = ap (option_map pos) (numeral_decimal n small)

pub plain_signed : (z : ℤ) → pos 0 ≤ℤ z → unsigned_abs z < 10 ^ 64 → plain_numeral (signed_decimal z) ≡ Some z
plain_signed (pos n) from small = plain_decimal n (omega (arith, small))
plain_signed (negsuc n) from small = absurd (omega (arith, ints, from))

pub signed_digits : (z : ℤ) → pos 0 ≤ℤ z → unsigned_abs z < 10 ^ 64 → all_ascii_digits (signed_decimal z) ≡ true
signed_digits (pos n) from small = all_digits (decimal n) (decimal_is_IsNumeral_wide n (omega (arith, small))).0.1
signed_digits (negsuc n) from small = absurd (omega (arith, ints, from))

pub signed_signed : (z : ℤ) → unsigned_abs z < 10 ^ 64 → signed_numeral (signed_decimal z) ≡ Some z
signed_signed (pos n) small =
    let t = decimal_is_IsNumeral_wide n (omega (arith, small)) in
    digit_first (decimal n) (all_digits (decimal n) t.0.1) (leads n (omega (arith, small))).some ∙ plain_decimal n (omega (arith, small))
signed_signed (negsuc n) small = ap (option_and_then below_zero) (numeral_decimal (suc n) (omega (arith, small)))

plain_back : (ds : List ℕ) (o : Option ℕ) (z : ℤ) → numeral ds ≡ o → option_map pos o ≡ Some z → unsigned_abs z < 10 ^ 64 → signed_decimal z ≡ ds
plain_back ds None z e h small = cc
plain_back ds (Some n) z e h small =
    let same : z ≡ pos n = cc in
    ap signed_decimal same ∙ decimal_numeral ds n e (omega (arith, small, ap unsigned_abs same))

pub signed_plain : (ds : List ℕ) (z : ℤ) → plain_numeral ds ≡ Some z → unsigned_abs z < 10 ^ 64 → signed_decimal z ≡ ds
signed_plain ds z h small = plain_back ds (numeral ds) z refl h small

below_back : (ds : List ℕ) (o : Option ℕ) (z : ℤ) → numeral ds ≡ o → option_and_then below_zero o ≡ Some z → unsigned_abs z < 10 ^ 64 → signed_decimal z ≡ 45 ∷ ds
below_back ds None z e h small = cc
below_back ds (Some zero) z e h small = cc
below_back ds (Some (suc n)) z e h small =
    let same : z ≡ negsuc n = cc in
    ap signed_decimal same ∙ ap (λ xs. 45 ∷ xs) (decimal_numeral ds (suc n) e (omega (arith, small, ap unsigned_abs same)))

signed_cases : (d : ℕ) (ds : List ℕ) (z : ℤ) (b : Bool) → (d == 45) ≡ b → cond b (option_and_then below_zero (numeral ds)) (option_map pos (numeral (d ∷ ds))) ≡ Some z → unsigned_abs z < 10 ^ 64 → signed_decimal z ≡ d ∷ ds
signed_cases d ds z true e h small =
    let minus : 45 ≡ d = grind (arith, nat_tests) in
    below_back ds (numeral ds) z refl h small ∙ ap (λ x. x ∷ ds) minus
signed_cases d ds z false e h small = plain_back (d ∷ ds) (numeral (d ∷ ds)) z refl h small

pub signed_back : (ds : List ℕ) (z : ℤ) → signed_numeral ds ≡ Some z → unsigned_abs z < 10 ^ 64 → signed_decimal z ≡ ds
signed_back [] z h small = cc
signed_back (d ∷ ds) z h small = signed_cases d ds z (d == 45) refl h small

-- ---- no separator stands in a number
-- the byte stands nowhere in the text
abbrev pub IsFree : ℕ → List ℕ → Type 0
IsFree c xs = All (λ b. (b == c) ≡ false) xs

free_digits : (c : ℕ) (ds : List ℕ) → c < 48 ⊎ 57 < c → all_ascii_digits ds ≡ true → IsFree c ds
free_digits c [] other h = All-nil (λ b. (b == c) ≡ false)
free_digits c (d ∷ ds) other h =
    let t = tells_all_ascii_digits.parts d ds h in
    let no : (d == c) ≡ false = ⊎_elim (λ l. grind (arith, nat_tests, t.0)) (λ l. grind (arith, nat_tests, t.0)) other in
    All-cons (λ b. (b == c) ≡ false) d ds no (free_digits c ds other t.1)

pub free_decimal : (c n : ℕ) → c < 48 ⊎ 57 < c → n < 10 ^ 64 → IsFree c (decimal n)
free_decimal c n other small = free_digits c (decimal n) other (all_digits (decimal n) (decimal_is_IsNumeral_wide n small).0.1)

pub free_signed : (c : ℕ) (z : ℤ) → c < 45 ⊎ 57 < c → unsigned_abs z < 10 ^ 64 → IsFree c (signed_decimal z)
free_signed c (pos n) other small = free_decimal c n (⊎_elim (λ l. inl (omega arith)) inr other) (omega (arith, small))
free_signed c (negsuc n) other small =
    let no : (45 == c) ≡ false = ⊎_elim (λ l. grind (arith, nat_tests)) (λ l. grind (arith, nat_tests)) other in
    All-cons (λ b. (b == c) ≡ false) 45 (decimal (suc n)) no (free_decimal c (suc n) (⊎_elim (λ l. inl (omega arith)) inr other) (omega (arith, small)))
