-- The records of a text, and how many they are.
use Rattle.std.proofs.Common.{◌≡◌, ◌<◌, ◌≤◌, ◌+◌, ℕ, zero, suc, Bool, true, false, List, [], ◌∷◌, length, Option, Some, None, refl, ap, sym, ◌∙◌, arith, inl, inr}
use Rattle.std.specs.Prelude.{◌==◌, if◌then◌else◌}
use Rattle.std.proofs.lemmas.Bool.{cases_Bool}
use Rattle.csv.specs.Machine.{Read, ends_at_end, ends_with, field_after, fields_after, in_field, start_field, start_record, is_end, next_record, step}
use Rattle.csv.specs.Reading.{records, records_from, records_next, strip_bom, is_bom, default_config}
use Rattle.csv.specs.declared.parser.Action.{Action}
use Rattle.csv.specs.declared.parser.Action.TheVariants as act
use Rattle.csv.specs.declared.parser.Terminator.TheVariants as term
use Rattle.csv.specs.declared.parser.Config.{Config}
use Rattle.csv.specs.declared.parser.State.{State}
use Rattle.csv.specs.declared.parser.State.TheVariants as st

same : (a p : Read) → Some a ≡ Some p → a ≡ p
same a p e = cc

-- what is left after a record is no longer than the text before it
next-within : (cfg : Config) (s : State) (fields : List (List ℕ)) (field xs : List ℕ) (p : Read) → next_record cfg s fields field xs ≡ Some p → length p.2 ≤ length xs
unfolding next_record
next-within cfg s fields field [] p e = elim (cases_Bool (ends_at_end s)) [
  | inl ends ↦ omega (arith, ap (λ (r : Read). length r.2) (same _ p (rw ends at e)))
  | inr stays ↦ cc (rw stays at e)
]
next-within cfg s fields field (c ∷ rest) p e = elim (cases_Bool (is_end (step cfg s c).1)) [
  | inl ends ↦ omega (arith, ap (λ (r : Read). length r.2) (same _ p (rw ends at e)))
  | inr more ↦ omega (arith, next-within cfg (step cfg s c).0 (fields_after (step cfg s c).1 fields field) (field_after (step cfg s c).1 c field) rest p (rw more at e))
]

-- a record that begins with a byte takes it
next-takes : (cfg : Config) (s : State) (fields : List (List ℕ)) (field : List ℕ) (c : ℕ) (rest : List ℕ) (p : Read) → next_record cfg s fields field (c ∷ rest) ≡ Some p → length p.2 ≤ length rest
unfolding next_record
next-takes cfg s fields field c rest p e = elim (cases_Bool (is_end (step cfg s c).1)) [
  | inl ends ↦ omega (arith, ap (λ (r : Read). length r.2) (same _ p (rw ends at e)))
  | inr more ↦ next-within cfg (step cfg s c).0 (fields_after (step cfg s c).1 fields field) (field_after (step cfg s c).1 c field) rest p (rw more at e)
]

-- between two records, the end of the text ends none
pub next-shorter : (cfg : Config) (s : State) (fields : List (List ℕ)) (field xs : List ℕ) (p : Read) → ends_at_end s ≡ false → next_record cfg s fields field xs ≡ Some p → length p.2 < length xs
unfolding next_record
next-shorter cfg s fields field [] p between e = cc (rw between at e)
next-shorter cfg s fields field (c ∷ rest) p between e = omega (arith, next-takes cfg s fields field c rest p e)

-- a byte that ends a record leads between two records
abbrev Between : State × Action → Type 0
Between next = is_end next.1 ≡ true → ends_at_end next.0 ≡ false

field-between : (c : ℕ) → Between (in_field default_config c)
field-between c e = elim (cases_Bool (c == 44)) [
  | inl comma ↦ cc (rw comma at e)
  | inr other ↦ elim (cases_Bool (ends_with term.CRLF c)) [
    | inl ends ↦ rw (other, ends) (elim (cases_Bool (c == 13)) [ inl cr ↦ rw cr | inr lf ↦ rw lf ])
    | inr stays ↦ cc (rw (other, stays) at e)
  ]
]

-- the same where a byte of its own leads elsewhere and ends no record
other-between : (b : Bool) (s : State) (a : Action) (next : State × Action) → is_end a ≡ false → Between next → Between (if b then (s, a) else next)
other-between true s a next stays between e = cc
other-between false s a next stays between e = between e

start_record-between : (c : ℕ) → Between (start_record default_config c)
start_record-between c = other-between (ends_with term.CRLF c) st.StartRecord act.Skip (start_field default_config c) refl (other-between (c == 34) st.InQuoted act.Skip (in_field default_config c) refl (field-between c))

ends-between : (s : State) (c : ℕ) → Between (step default_config s c)
ends-between st.StartRecord c = start_record-between c
ends-between st.StartField c = other-between (c == 34) st.InQuoted act.Skip (in_field default_config c) refl (field-between c)
ends-between st.InField c = field-between c
ends-between st.InQuoted c = other-between (c == 34) st.AfterQuote act.Skip (st.InQuoted, act.Copy) refl (λ e. cc)
ends-between st.InEscape c = λ e. cc
ends-between st.AfterQuote c = other-between (c == 34) st.InQuoted act.Copy (in_field default_config c) refl (field-between c)
ends-between st.InComment c = other-between (c == 10) st.StartRecord act.Skip (st.InComment, act.Skip) refl (λ e. cc)
ends-between st.AfterCr c = other-between (c == 10) st.StartRecord act.Skip (start_record default_config c) refl (start_record-between c)

-- a record leads between two records
pub next-between : (s : State) (fields : List (List ℕ)) (field xs : List ℕ) (p : Read) → next_record default_config s fields field xs ≡ Some p → ends_at_end p.1 ≡ false
unfolding next_record
next-between s fields field [] p e = elim (cases_Bool (ends_at_end s)) [
  | inl ends ↦ sym (ap (λ (r : Read). ends_at_end r.1) (same _ p (rw ends at e)))
  | inr stays ↦ cc (rw stays at e)
]
next-between s fields field (c ∷ rest) p e = elim (cases_Bool (is_end (step default_config s c).1)) [
  | inl ends ↦ sym (ap (λ (r : Read). ends_at_end r.1) (same _ p (rw ends at e))) ∙ ends-between s c ends
  | inr more ↦ next-between (step default_config s c).0 (fields_after (step default_config s c).1 fields field) (field_after (step default_config s c).1 c field) rest p (rw more at e)
]

-- a text has at most as many records as bytes
records-within : (n : ℕ) (s : State) (xs : List ℕ) → ends_at_end s ≡ false → length (records_from default_config n s xs) ≤ length xs
unfolding records_from
records-within zero s xs between = omega arith
records-within (suc n) s xs between = one (next_record default_config s [] [] xs) refl (λ t ys b. records-within n t ys b)
  where
    one : (next : Option Read) → next_record default_config s [] [] xs ≡ next
        → ((t : State) (ys : List ℕ) → ends_at_end t ≡ false → length (records_from default_config n t ys) ≤ length ys)
        → length (records_next (records_from default_config n) next) ≤ length xs
    one None e more = omega arith
    one (Some p) e more = omega (arith, next-shorter default_config s [] [] xs p between e, more p.1 p.2 (next-between s [] [] xs p e))

strip_bom-within : (text : List ℕ) → length (strip_bom text) ≤ length text
unfolding strip_bom
strip_bom-within [] = omega arith
strip_bom-within (a ∷ []) = omega arith
strip_bom-within (a ∷ b ∷ []) = omega arith
strip_bom-within (a ∷ b ∷ c ∷ rest) = elim (cases_Bool (is_bom a b c)) [
  | inl mark ↦ rw mark (omega arith)
  | inr other ↦ rw other (omega arith)
]

pub records-few : (text : List ℕ) → length (records default_config (strip_bom text)) ≤ length text
records-few text = omega (arith, records-within (length (strip_bom text) + 1) st.StartRecord (strip_bom text) refl, strip_bom-within text)
