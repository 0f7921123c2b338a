-- Whether the numbers of a line are in range, and its entries rise.
use Rattle.std.specs.Prelude.{ℕ, ◌+◌, ◌^◌, Bool, true, false, not, ◌&&◌, ◌==◌, nat_lt, nat_le, List, [], ◌∷◌, Option, Some, None, ℤ, unsigned_abs}
use Rattle.std.specs.List.{list_all}
use Rattle.opt_base.specs.declared.verdict.Verdict.{Verdict}
use Rattle.opt_base.specs.declared.verdict.Verdict.TheVariants as verdict
use Rattle.opt_bound.specs.declared.limits.TheConstants.{MULTIPLIER_LIMIT}
use Rattle.opt_bound.specs.Multipliers.{Multipliers}
use Rattle.opt_cert.specs.declared.limits.TheConstants.{NUMBER_LIMIT, OBJECTIVE_LIMIT, VALUE_LIMIT}
use Rattle.opt_cert.specs.declared.cert_line.CertLine.{CertLine}
use Rattle.opt_cert.specs.declared.cert_line.CertLine.TheVariants as line

-- an objective, a best or a bound is from 0 to 2^126; no such number is spelled below 0
abbrev pub objective_in_range : ℤ → Bool
objective_in_range n = nat_le (unsigned_abs n) OBJECTIVE_LIMIT

abbrev pub best_in_range : Option ℤ → Bool
best_in_range None = true
best_in_range (Some best) = objective_in_range best

abbrev pub verdict_in_range : Verdict → Bool
verdict_in_range (verdict.Plan objective bound) = objective_in_range objective && objective_in_range bound
verdict_in_range verdict.NoPlan = true
verdict_in_range (verdict.Unfinished bound best) = objective_in_range bound && best_in_range best

-- the number of a row or a quantity has 32 bits
abbrev pub number_in_range : ℕ → Bool
number_in_range n = nat_le n NUMBER_LIMIT

-- a row's multiplier is not 0 and at most 2^56 in size
abbrev pub weight_in_range : ℤ → Bool
weight_in_range y = not (unsigned_abs y == 0) && nat_le (unsigned_abs y) MULTIPLIER_LIMIT

abbrev pub row_in_range : ℕ × ℤ → Bool
row_in_range e = number_in_range e.0 && weight_in_range e.1

-- the objective's multiplier is at most 2^56, and is not spelled below 0
abbrev pub multiplier_in_range : ℤ → Bool
multiplier_in_range q = nat_le (unsigned_abs q) MULTIPLIER_LIMIT

abbrev pub multipliers_in_range : Multipliers → Bool
multipliers_in_range m = multiplier_in_range m.q && list_all row_in_range m.entries

-- a quantity's value is from 1 to 2^63 - 1, and is not spelled below 0
abbrev pub value_in_range : ℤ → Bool
value_in_range v = not (unsigned_abs v == 0) && nat_le (unsigned_abs v) VALUE_LIMIT

abbrev pub quantity_in_range : ℕ × ℤ → Bool
quantity_in_range e = number_in_range e.0 && value_in_range e.1

abbrev pub point_in_range : Option (List (ℕ × ℤ)) → Bool
point_in_range None = true
point_in_range (Some entries) = list_all quantity_in_range entries

-- a cut is from 0 to 2^63 - 1, and is not spelled below 0
abbrev pub cut_value_in_range : ℤ → Bool
cut_value_in_range t = nat_le (unsigned_abs t) VALUE_LIMIT

abbrev pub cut_in_range : ℕ → ℤ → Bool
cut_in_range j t = number_in_range j && cut_value_in_range t

abbrev pub is_in_range : CertLine → Bool
is_in_range line.Header = true
is_in_range (line.Verdict v) = verdict_in_range v
is_in_range (line.Root m) = multipliers_in_range m
is_in_range (line.Point entries) = point_in_range entries
is_in_range (line.Split j t) = cut_in_range j t
is_in_range (line.Leaf m) = multipliers_in_range m
is_in_range line.End = true

-- each number is greater than the one before it, the first at least this
abbrev pub rises_from : ℕ → List (ℕ × ℤ) → Bool
rises_from least [] = true
rises_from least (e ∷ es) = nat_le least e.0 && rises_from (e.0 + 1) es

abbrev pub point_rises : Option (List (ℕ × ℤ)) → Bool
point_rises None = true
point_rises (Some entries) = rises_from 0 entries

-- the line's entries go by rising number
abbrev pub is_in_order : CertLine → Bool
is_in_order line.Header = true
is_in_order (line.Verdict v) = true
is_in_order (line.Root m) = rises_from 0 m.entries
is_in_order (line.Point entries) = point_rises entries
is_in_order (line.Split j t) = true
is_in_order (line.Leaf m) = rises_from 0 m.entries
is_in_order line.End = true
