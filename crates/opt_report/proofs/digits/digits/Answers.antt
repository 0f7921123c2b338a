use Rattle.std.proofs.Common.{◌≡◌, ℕ, ◌^◌, ◌<◌, ◌≤◌, true, List, Result, Ok, Err, length, ⊎_elim, rules}
use Rattle.std.proofs.lemmas.Bool.{cases_lt}
use Rattle.std.proofs.lemmas.Str.Parse.{IsDigitsTest, IsNumeralModel, numerals_by_value, parse_digits}
use Rattle.std.specs.Char.{is_ascii_digit}
use Rattle.std.specs.List.{list_all}
use Rattle.std.specs.Option.{MatchOption}
use Rattle.std.specs.Result.{OkIff, result_ok}
use Rattle.std.specs.Str.Parse.{digits_value}
use Rattle.opt_tables.specs.Records.{is_number}
use Rattle.opt_report.proofs.digits.digits.Goals as goal

tests : IsDigitsTest (λ ds. list_all is_ascii_digit ds ≡ true)
tests = search rules

own : IsNumeralModel (λ ds. list_all is_ascii_digit ds ≡ true) (digits_value 10)
own = numerals_by_value _ tests

-- what parsing gives, where it fails just for numbers of more than 32 bits
kept : {E : Type 0} (text : List ℕ) (r : Result ℕ E) → 0 < length text → OkIff r ((0 < length text) × (digits_value 10 text < 2 ^ 64)) (digits_value 10 text)
    → MatchOption (result_ok r) (2 ^ 64 ≤ digits_value 10 text) (λ number. number ≡ digits_value 10 text)
kept text (Ok x) some parsed = parsed.1
kept text (Err e) some parsed = ⊎_elim (λ fits. absurd (parsed (some, fits))) (λ more. more) (cases_lt (digits_value 10 text) (2 ^ 64))

split : (text : List ℕ) → is_number text ≡ true → (0 < length text) × (list_all is_ascii_digit text ≡ true)
split text h = search rules

pub returns : goal.returns
returns c =
    let parts = split c.args.text.now c.requires in
    let gives : OkIff c.parse.result ((0 < length c.args.text.now) × (digits_value 10 c.args.text.now < 2 ^ 64)) (digits_value 10 c.args.text.now) =
    parse_digits own 64 c.args.text.now c.parse.result c.parse.ensures.value.0 parts.1 in
    rw c.ok.ensures.value (kept c.args.text.now c.parse.result parts.0 gives)
