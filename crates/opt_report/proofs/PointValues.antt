-- The values of a point within the ranges of a layout.
use Rattle.std.proofs.Common.{◌≡◌, ℕ, ◌^◌, ◌<◌, ◌≤◌, List, length, position, Some, None, ℤ, pos, ◌≤ℤ◌, ap, arith}
use Rattle.std.specs.Prelude.{slice_index_or}
use Rattle.std.specs.Option.{option_map_or}
use Rattle.std.proofs.lemmas.Int.{ints}
use Rattle.std.proofs.lemmas.List.Quantifiers.{position-Some}
use Rattle.opt_model.specs.Quantities.{same_quantity}
use Rattle.opt_model.specs.declared.quantity.Quantity.{Quantity}
use Rattle.opt_network.specs.Numbering.{Numbering, IsNumbering, IsSpan}
use Rattle.opt_system.specs.Ranges.{IsWithin}
use Rattle.opt_tables.specs.Facts.{IsFrom}
use Rattle.opt_report.specs.PointPlans.{plan_with}

module _ (layout : Numbering) (xs : List ℤ) (numbering : IsNumbering layout) (within : IsWithin (record { low = layout.lows; high = layout.highs }) xs) where
  -- a quantity with a number has a value
  pub value_there : (q : Quantity) (i : ℕ) → position (same_quantity q) layout.quantities ≡ Some i → i < length xs
  value_there q i found =
      let there = position-Some (same_quantity q) layout.quantities i q found in
      omega (arith, there.0, numbering.lows, within.same_length)

  -- it is from 0 to 2^40
  pub value_small : (q : Quantity) (i : ℕ) → position (same_quantity q) layout.quantities ≡ Some i → IsFrom (pos 0) (pos (2 ^ 40)) (slice_index_or xs i (pos 0))
  value_small q i found =
      let there = position-Some (same_quantity q) layout.quantities i q found in
      let span : IsSpan (slice_index_or layout.lows i (pos 0)) (slice_index_or layout.highs i (pos 0)) = numbering.spans i there.0 in
      let low : slice_index_or layout.lows i (pos 0) ≤ℤ slice_index_or xs i (pos 0) = within.above i (value_there q i found) in
      let high : slice_index_or xs i (pos 0) ≤ℤ slice_index_or layout.highs i (pos 0) = within.below i (value_there q i found) in
      record { above = omega (arith, ints, span.from_zero, low); below = omega (arith, ints, span.small, high) }

module _ (qs : List Quantity) (xs : List ℤ) (q : Quantity) where
  -- the plan's value of a quantity with a number
  pub value_at : (i : ℕ) → position (same_quantity q) qs ≡ Some i → plan_with (record { quantities = qs; values = xs }) q ≡ slice_index_or xs i (pos 0)
  unfolding plan_with
  value_at i found = ap (λ o. option_map_or (λ number. slice_index_or xs number (pos 0)) o (pos 0)) found

  -- that of another
  pub no_value : position (same_quantity q) qs ≡ None → plan_with (record { quantities = qs; values = xs }) q ≡ pos 0
  unfolding plan_with
  no_value missing = ap (λ o. option_map_or (λ number. slice_index_or xs number (pos 0)) o (pos 0)) missing
