-- The variables of a limited system on a box within its root have numbers that fit.
use Rattle.std.proofs.Common.{◌≡◌, Bool, true, false, ℕ, ◌+◌, ◌<◌, ◌≤◌, ◌^◌, List, ◌++◌, length, map, take, get_or, ℤ, pos, unsigned_abs, Option, Some, None, All, IfSome, sum_by, refl, arith}
use Rattle.std.proofs.lemmas.Int.{ints}
use Rattle.std.proofs.lemmas.List.{length-append, length-map, get_or_default}
use Rattle.std.proofs.lemmas.List.Sums.{sum_by_more_le}
use Rattle.std.proofs.lemmas.List.Elements.{All-append, All-map}
use Rattle.opt_sums.specs.Sums.{at}
use Rattle.opt_system.specs.declared.rows.RowKind.{RowKind}
use Rattle.opt_system.specs.declared.rows.RowKind.TheVariants.{Ge, Eq}
use Rattle.opt_system.specs.Ranges.{Range, IsOrdered, LiesIn}
use Rattle.opt_system.specs.Systems.{System, IsLimited}
use Rattle.opt_system.proofs.LimitLemmas.{size_high}
use Rattle.opt_frac.specs.Divisors.{Fits}
use Rattle.opt_simplex.specs.Variables.{Variables, variables_of, row_high, low_of, high_of, rests_high, end_of_range, resting}
use Rattle.opt_simplex.specs.Shape.{AreKept}

high_if_fits : (kind : RowKind) (right : ℤ) → Fits right → IfSome (row_high kind right) Fits
high_if_fits Ge right h = tt
high_if_fits Eq right h = h

module _ (p : System) (box : Range) (limits : IsLimited p) (ordered : IsOrdered box) (inside : LiesIn p.root box) where
  lows_each : length box.low ≡ length p.cost
  lows_each = omega (arith, inside.same_length, limits.small.cost_each)

  highs_each : length box.high ≡ length p.cost
  highs_each = omega (arith, ordered.same_length, lows_each)

  high_small : (j : ℕ) → j < length box.low → unsigned_abs (at box.high j) < 2 ^ 51
  high_small j h =
      omega (arith, size_high p.root box j ordered inside h, limits.small.costs.highs j (omega (arith, lows_each, h)))

  highs_fit : All Fits box.high
  highs_fit k d h =
      let inside_low : k < length box.low = omega (arith, ordered.same_length, h) in
      rw (get_or_default box.high k d (pos 0) h) (omega (arith, high_small k inside_low))

  lows_fit : All Fits box.low
  lows_fit k d h =
      rw (get_or_default box.low k d (pos 0) h)
      (omega (arith, ints, high_small k h, ordered.from_zero k h, ordered.rising k h))

  rights_fit : All (λ row. Fits row.right_hand_side) p.rows
  rights_fit k d h =
      let part : sum_by (λ row. unsigned_abs row.right_hand_side) (take k p.rows) + unsigned_abs (get_or p.rows k d).right_hand_side
      ≤ sum_by (λ row. unsigned_abs row.right_hand_side) p.rows =
      sum_by_more_le (λ row. unsigned_abs row.right_hand_side) p.rows k d h in
      omega (arith, part, limits.small.rights)

  pub kept-variables : AreKept (variables_of p box)
  kept-variables =
      record {
        same_length =
            omega (
              arith,
              length-append box.low (map (λ row. row.right_hand_side) p.rows),
              length-map p.rows (λ row. row.right_hand_side),
              length-append (map Some box.high) (map (λ row. row_high row.kind row.right_hand_side) p.rows),
              length-map box.high Some,
              length-map p.rows (λ row. row_high row.kind row.right_hand_side),
              ordered.same_length,
            );
        few_quantities = omega (arith, limits.small.cost_each, limits.small.few_quantities, limits.ordered.same_length);
        few_rows =
            omega (
              arith,
              length-append box.low (map (λ row. row.right_hand_side) p.rows),
              length-map p.rows (λ row. row.right_hand_side),
              lows_each,
              limits.few_rows,
            );
        quantities_first =
            omega (arith, length-append box.low (map (λ row. row.right_hand_side) p.rows), lows_each);
        lows_fit =
            All-append Fits box.low (map (λ row. row.right_hand_side) p.rows) lows_fit (All-map Fits (λ row. row.right_hand_side) p.rows rights_fit);
        highs_fit =
            All-append (λ high. IfSome high Fits) (map Some box.high) (map (λ row. row_high row.kind row.right_hand_side) p.rows)
            (All-map (λ high. IfSome high Fits) Some box.high highs_fit)
            (All-map (λ high. IfSome high Fits) (λ row. row_high row.kind row.right_hand_side) p.rows
            (λ k d h. high_if_fits (get_or p.rows k d).kind (get_or p.rows k d).right_hand_side (rights_fit k d h)));
      }

-- the variables of a system on a box, from their parts
pub variables_same : (p : System) (box : Range) (n : ℕ) (lows : List ℤ) (highs : List (Option ℤ)) → n ≡ length p.cost
    → lows ≡ box.low ++ map (λ row. row.right_hand_side) p.rows
    → highs ≡ map Some box.high ++ map (λ row. row_high row.kind row.right_hand_side) p.rows
    → record { quantities = n; low = lows; high = highs } ≡ variables_of p box
variables_same p box n lows highs count low high = rw (count, low, high) refl

-- the value at which a variable rests fits
pub resting-fits : (v : Variables) (at_high : List Bool) (k : ℕ) → AreKept v → k < length v.low → Fits (resting v at_high k)
resting-fits v at_high k kept inside = by_flag (rests_high at_high k) (high_of v k) (kept.highs_fit k None (omega (arith, kept.same_length, inside)))
  where
    by_flag : (flag : Bool) (high : Option ℤ) → IfSome high Fits → Fits (end_of_range flag (low_of v k) high)
    by_flag true None h = kept.lows_fit k (pos 0) inside
    by_flag true (Some high) h = h
    by_flag false high h = kept.lows_fit k (pos 0) inside
