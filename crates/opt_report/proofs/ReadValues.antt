-- One number of a plan file, from its digits to its value.
use Rattle.std.proofs.Common.{◌≡◌, ◌<◌, ◌≤◌, ◌*◌, ◌/◌, ◌%◌, ◌^◌, ℕ, true, false, cond, List, [], ◌∷◌, length, codes, All, IsUtf8, Option, Some, None, Ok, ℤ, pos, negsuc, ◌*ℤ◌, ◌≤ℤ◌, refl, ap, sym, subst, ◌∙◌, arith}
use Rattle.std.specs.Prelude.{slice_get, nat_le, int_le, int_lt}
use Rattle.std.specs.Fmt.{decimal}
use Rattle.std.specs.Option.{option_map_or}
use Rattle.std.specs.Ordering.{int_eq}
use Rattle.std.proofs.Math.Nat.{mul-mod_right, mul-div_cancel, mul_comm}
use Rattle.std.proofs.lemmas.Bool.Decides.{nat_tests}
use Rattle.std.proofs.lemmas.Int.{ints}
use Rattle.std.proofs.lemmas.List.Elements.{All-cons}
use Rattle.csv.specs.Writing.{row_text, default_writer}
use Rattle.opt_tables.specs.Records.{Record, text_in, number_in}
use Rattle.opt_report.specs.PlanFiles.{value_in}
use Rattle.opt_report.proofs.ReadNames.{there}
use Rattle.opt_report.proofs.WrittenGrid.{header}
use Rattle.opt_report.proofs.WrittenNumbers.{IsWritten, number_written}
use Rattle.opt_report.proofs.WrittenText.{AreText, ascii_text, row_is_text}

-- a value that is listed; 0 is not
abbrev pub listed_value : ℤ → Option ℤ
listed_value z = cond (int_eq z (pos 0)) None (Some z)

-- a number of which so many units come to an amount
pub units_back : (u k : ℕ) → 1 ≤ u → ((u * k) % u ≡ 0) × ((u * k) / u ≡ k)
units_back u k h = (mul-mod_right u k, ap (λ n. n / u) (mul_comm u k) ∙ mul-div_cancel k h)

-- a number from 0 on
pub from_zero : (z : ℤ) → pos 0 ≤ℤ z → (n : ℕ) × (z ≡ pos n)
from_zero (pos n) h = (n, refl)
from_zero (negsuc n) h = absurd (omega (arith, ints))

pub product : (a b : ℕ) → pos a *ℤ pos b ≡ pos (a * b)
product a b = refl

pub not_less : (a b : ℤ) → b ≤ℤ a → int_lt a b ≡ false
not_less a b h = grind (arith, ints)

pub at_most : (a b : ℤ) → a ≤ℤ b → int_le a b ≡ true
at_most a b h = grind (arith, ints)

-- what all records have, the record of a number has
pub all_at : {A B : Type 0} (P : B → Type 0) (f : A → B) (rs : List A) (i : ℕ) (e : B) → i < length rs → All (λ r. P (f r)) rs → P (option_map_or f (slice_get rs i) e)
all_at P f [] i e h all = absurd (omega arith)
all_at P f (r ∷ rs) i e h all = subst P (sym (there (r ∷ rs) i r f e h)) (all i r h)

-- a number of units is read from the digits of the amount
pub value_back : (row : Record) (u k : ℕ) (lowest highest : ℤ) → text_in row 5 ≡ decimal (u * k) → 1 ≤ u → u * k < 2 ^ 64 → lowest ≤ℤ pos k → pos k ≤ℤ highest
    → value_in row (pos u) lowest highest ≡ Ok (pos k)
value_back row u k lowest highest text some small above below =
    let w : IsWritten (u * k) = number_written (u * k) small in
    let back = units_back u k some in
    rw (text, w.number, w.value, back.0, back.1, at_most lowest (pos k) above, at_most (pos k) highest below) refl

-- a month is read from its digits
pub month_back : (row : Record) (month last : ℕ) → text_in row 4 ≡ decimal month → 1 ≤ month → month ≤ last → last ≤ 36 → number_in row 4 1 last ≡ Ok month
month_back row month last text first within few =
    let w : IsWritten month = number_written month (omega arith) in
    let above : nat_le 1 month ≡ true = grind (arith, nat_tests) in
    let below : nat_le month last ≡ true = grind (arith, nat_tests) in
    rw (text, w.number, w.value, above, below) refl

pub five_text : (a b c d e : List ℕ) → IsUtf8 a → IsUtf8 b → IsUtf8 c → IsUtf8 d → IsUtf8 e → AreText (a ∷ b ∷ c ∷ d ∷ e ∷ [])
five_text a b c d e ua ub uc ud ue =
    let P : List ℕ → Type 0 = λ f. IsUtf8 f in
    All-cons P a (b ∷ c ∷ d ∷ e ∷ []) ua (All-cons P b (c ∷ d ∷ e ∷ []) ub (All-cons P c (d ∷ e ∷ []) uc (All-cons P d (e ∷ []) ud (All-cons P e [] ue (λ j x h. absurd (omega arith))))))

-- the names of the columns are written as text
pub header_text : IsUtf8 (row_text default_writer header)
header_text =
    row_is_text (codes "quantity") (codes "name") (codes "commodity" ∷ codes "month" ∷ codes "amount" ∷ [])
    (five_text (codes "quantity") (codes "name") (codes "commodity") (codes "month") (codes "amount")
    (ascii_text (codes "quantity") refl) (ascii_text (codes "name") refl) (ascii_text (codes "commodity") refl) (ascii_text (codes "month") refl) (ascii_text (codes "amount") refl))
