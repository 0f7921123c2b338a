-- Numbers that are written are read, and stay as they are where blanks are dropped.
use Rattle.std.proofs.Common.{◌≡◌, ◌<◌, ◌-◌, ◌^◌, ◌==◌, ℕ, zero, suc, true, false, not, List, [], ◌∷◌, take, length, get_or, IsUtf8, refl, ap, sym, ◌∙◌, arith, take_all}
use Rattle.std.proofs.lemmas.Bool.{and_from, eqb-true, false_from_ne_true}
use Rattle.std.proofs.lemmas.Bool.Decides.{nat_tests}
use Rattle.std.proofs.lemmas.Fmt.{decimal_is_IsNumeral}
use Rattle.std.proofs.lemmas.List.Sums.{suffix_len-take_no}
use Rattle.std.proofs.lemmas.Str.{IsUtf8-append, IsUtf8-nil}
use Rattle.std.specs.Char.{digit_value, is_ascii_digit}
use Rattle.std.specs.Fmt.{decimal}
use Rattle.std.specs.List.{list_all, suffix_len}
use Rattle.std.specs.Str.Parse.{AllDigits, IsNumeral, digits_value}
use Rattle.opt_read.specs.Grid.{is_blank, without_back, without_blanks, without_front}
use Rattle.opt_tables.specs.Records.{is_number}
use Rattle.opt_report.proofs.WrittenText.{ascii_one}

-- a byte that is a digit is no blank
record Digit (c : ℕ) : Type 0 where
  small : c < 128
  test : is_ascii_digit c ≡ true
  other : is_blank c ≡ false

digit : (c : ℕ) → digit_value c < 10 → Digit c
digit c h = record { small = grind (arith, nat_tests); test = grind (arith, nat_tests); other = grind (arith, nat_tests) }

-- a text that begins and ends with no blank stays as it is
front_stays : (c : ℕ) (rest : List ℕ) → is_blank c ≡ false → without_front (c ∷ rest) ≡ c ∷ rest
front_stays c rest e = rw e refl

back_stays : (text : List ℕ) → 0 < length text → is_blank (get_or text (length text - 1) 0) ≡ false → without_back text ≡ text
back_stays text some e =
    let whole : take (length text) text ≡ text = take_all (length text) text (omega arith) in
    let none : suffix_len is_blank text ≡ 0 = ap (suffix_len is_blank) (sym whole) ∙ suffix_len-take_no is_blank text (length text) 0 some (omega arith) e in
    ap (λ n. take (length text - n) text) none ∙ take_all (length text - 0) text (omega arith)

-- each byte of a numeral is a digit
digits_at : (text : List ℕ) (i : ℕ) → AllDigits 10 text → i < length text → Digit (get_or text i 0)
digits_at [] i all h = absurd (omega arith)
digits_at (c ∷ cs) zero all h = digit c all.0
digits_at (c ∷ cs) (suc i) all h = digits_at cs i all.1 (omega arith)

all_digits : (text : List ℕ) → AllDigits 10 text → list_all is_ascii_digit text ≡ true
all_digits [] all = refl
all_digits (c ∷ cs) all = and_from (is_ascii_digit c) (list_all is_ascii_digit cs) (digit c all.0).test (all_digits cs all.1)

digits_text : (text : List ℕ) → AllDigits 10 text → IsUtf8 text
digits_text [] all = IsUtf8-nil
digits_text (c ∷ cs) all = IsUtf8-append (c ∷ []) cs (ascii_one c (digit c all.0).small) (digits_text cs all.1)

numeral_stays : (text : List ℕ) → IsNumeral 10 text → without_blanks text ≡ text
numeral_stays [] is = absurd (omega (arith, is.0))
numeral_stays (c ∷ cs) is =
    let front : without_front (c ∷ cs) ≡ c ∷ cs = front_stays c cs (digit c is.1.0).other in
    ap without_back front ∙ back_stays (c ∷ cs) is.0 (digits_at (c ∷ cs) (length (c ∷ cs) - 1) is.1 (omega arith)).other

some_digits : (text : List ℕ) → 0 < length text → list_all is_ascii_digit text ≡ true → is_number text ≡ true
some_digits text some all =
    let there : (length text == 0) ≡ false = false_from_ne_true (length text == 0) (λ e. absurd (omega (arith, eqb-true (length text) 0 e, some))) in
    and_from (not (length text == 0)) (list_all is_ascii_digit text) (ap not there) all

-- a number as it is written
pub record IsWritten (n : ℕ) : Type 0 where
  pub number : is_number (decimal n) ≡ true
  pub value : digits_value 10 (decimal n) ≡ n
  pub stripped : without_blanks (decimal n) ≡ decimal n
  pub text : IsUtf8 (decimal n)

pub number_written : (n : ℕ) → n < 2 ^ 64 → IsWritten n
number_written n h =
    let is = decimal_is_IsNumeral n h in
    record {
      number = some_digits (decimal n) is.0.0 (all_digits (decimal n) is.0.1);
      value = is.1;
      stripped = numeral_stays (decimal n) is.0;
      text = digits_text (decimal n) is.0.1;
    }
