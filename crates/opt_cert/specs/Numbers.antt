-- How a certificate spells numbers: each number in one way.
use Rattle.std.specs.Prelude.{ℕ, zero, suc, Bool, true, false, not, ◌&&◌, ◌||◌, ◌==◌, if◌then◌else◌, List, [], ◌∷◌, length, Option, Some, None, ℤ, pos, negsuc}
use Rattle.std.specs.List.{slice_split}
use Rattle.std.specs.Option.{option_map, option_and_then}
use Rattle.std.specs.Str.{all_ascii_digits}
use Rattle.std.specs.Str.Parse.{digits_value}

-- the parts of a text between bytes that are the separator
abbrev pub pieces : ℕ → List ℕ → List (List ℕ)
pieces separator bytes = slice_split (λ b. b == separator) bytes

-- `0`, or digits that do not begin with `0`
abbrev pub is_numeral : List ℕ → Bool
is_numeral [] = false
is_numeral (d ∷ ds) = all_ascii_digits (d ∷ ds) && (not (d == 48) || length ds == 0)

-- the number that such digits spell, however many they are
abbrev pub numeral : List ℕ → Option ℕ
numeral ds = if is_numeral ds then Some (digits_value 10 ds) else None

-- the number below 0 of this size; there is no `-0`
abbrev pub below_zero : ℕ → Option ℤ
below_zero zero = None
below_zero (suc n) = Some (negsuc n)

-- a number, or `-` and a number other than 0
abbrev pub signed_numeral : List ℕ → Option ℤ
signed_numeral [] = None
signed_numeral (d ∷ ds) = if d == 45 then option_and_then below_zero (numeral ds) else option_map pos (numeral (d ∷ ds))

-- a number from 0 on, among numbers that may have a sign elsewhere
abbrev pub plain_numeral : List ℕ → Option ℤ
plain_numeral ds = option_map pos (numeral ds)
