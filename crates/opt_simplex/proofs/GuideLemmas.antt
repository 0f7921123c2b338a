-- What an end that is true of a box gives the guide: floors that lie within the box, a cut of it, and multipliers that are
-- admissible.
use Rattle.std.proofs.Common.{◌≡◌, ℕ, ◌^◌, ◌<◌, ◌≤◌, true, Option, Some, None, List, length, ℤ, pos, ◌≤ℤ◌, unsigned_abs, All, IfSome, refl, sym, ◌∙◌, arith}
use Rattle.std.proofs.lemmas.Int.{ints}
use Rattle.std.proofs.lemmas.List.{get_or_default}
use Rattle.std.proofs.lemmas.List.Elements.{All-nil}
use Rattle.opt_base.specs.declared.limits.TheConstants.{QUANTITY_LIMIT}
use Rattle.opt_sums.specs.Sums.{at}
use Rattle.opt_sums.proofs.Ring.{size_le}
use Rattle.opt_system.specs.Ranges.{Range, IsOrdered, LiesIn}
use Rattle.opt_system.specs.Cuts.{IsCut}
use Rattle.opt_system.specs.Systems.{System, IsLimited}
use Rattle.opt_bound.specs.Multipliers.{Multipliers, IsFitting}
use Rattle.opt_bound.proofs.BoundSizes.{size_top}
use Rattle.opt_simplex.specs.declared.end.LpEnd.{LpEnd}
use Rattle.opt_simplex.specs.declared.end.LpEnd.TheVariants.{Optimal, Empty, Stopped}
use Rattle.opt_simplex.specs.declared.limits.TheConstants.{PIVOT_LIMIT}
use Rattle.opt_simplex.specs.Kept.{IsFraction}
use Rattle.opt_simplex.specs.Rule.{end_of}
use Rattle.opt_simplex.specs.Soundness.{IsOptimal, IsSound, fraction_at}
use Rattle.opt_simplex.specs.Guide.{IsEndOn, guide_end, multipliers_of, fractions_of, floor_of, is_fractional, first_fractional, first_cut, cut_at}
use Rattle.opt_simplex.proofs.FloorLemmas.{IsBetween, floor_of-least, floor_of-most, floor_of-below, first_fractional-means}

-- the size of the floor is below the limit of sizes
abbrev IsSmallFloor : ℤ × ℤ → Type 0
IsSmallFloor f = unsigned_abs (floor_of f) < 2 ^ 51

module _ (p : System) (box : Range) (limited : IsLimited p) (ordered : IsOrdered box) (inside : LiesIn p.root box) where
  module _ (point : List (ℤ × ℤ)) (m : Multipliers) (is : IsOptimal p box point m) (proper : All IsFraction point) where
    between : (j : ℕ) → j < length point → IsBetween (fraction_at point j) is.scale (at is.x j) (at box.low j) (at box.high j)
    between j h =
        let here : j < length is.x = omega (arith, is.scaled.same_length) in
        record {
          denominator = (proper j (pos 0, pos 1) h).denominator_positive;
          scale_positive = is.scaled.scale_positive;
          equal = is.scaled.equal j h;
          above = is.meets.above j here;
          below = is.meets.below j here;
        }

    in_cost : (j : ℕ) → j < length point → j < length p.cost
    in_cost j h = omega (arith, is.scaled.same_length, is.meets.same_length)

    in_box : (j : ℕ) → j < length point → j < length box.low
    in_box j h = omega (arith, in_cost j h, limited.small.cost_each, inside.same_length)

    small_at : (j : ℕ) → j < length point → IsSmallFloor (fraction_at point j)
    small_at j h =
        let f = fraction_at point j in
        let least : at box.low j ≤ℤ floor_of f = floor_of-least f is.scale (at is.x j) (at box.low j) (at box.high j) (between j h) in
        let most : floor_of f ≤ℤ at box.high j = floor_of-most f is.scale (at is.x j) (at box.low j) (at box.high j) (between j h) in
        let from : pos 0 ≤ℤ at box.low j = ordered.from_zero j (in_box j h) in
        let size : unsigned_abs (floor_of f) ≤ unsigned_abs (at box.high j) = size_le (floor_of f) (at box.high j) (omega (arith, ints, from, least)) most in
        let top : unsigned_abs (at box.high j) ≤ unsigned_abs (at p.root.high j) = size_top p box j limited inside ordered (in_cost j h) in
        let high : unsigned_abs (at p.root.high j) < 2 ^ 51 = limited.small.costs.highs j (in_cost j h) in
        omega (arith, size, top, high)

    small_floors : All IsSmallFloor point
    small_floors j d h = rw (get_or_default point j d (pos 0, pos 1) h) (small_at j h)

    few_fractions : length point ≤ QUANTITY_LIMIT
    few_fractions =
        omega (arith, is.scaled.same_length, is.meets.same_length, limited.small.cost_each, limited.small.few_quantities, limited.ordered.same_length)

    cut_by : (r : Option ℕ) → first_fractional point ≡ r → IfSome r (λ _. IsCut box (cut_at point r).0 (cut_at point r).1)
    cut_by None e = tt
    cut_by (Some j) e =
        let first : (j < length point) × (is_fractional (fraction_at point j) ≡ true) = first_fractional-means point j e in
        let f = fraction_at point j in
        record {
          quantity = in_box j first.0;
          from_low = floor_of-least f is.scale (at is.x j) (at box.low j) (at box.high j) (between j first.0);
          below_high = floor_of-below f is.scale (at is.x j) (at box.low j) (at box.high j) (between j first.0) first.1;
        }

  pub floors_small : (end : LpEnd) → IsSound p box end → All IsFraction (fractions_of end) → All IsSmallFloor (fractions_of end)
  floors_small (Optimal point m done) sound proper = small_floors point m sound.1 proper
  floors_small (Empty m done) sound proper = All-nil IsSmallFloor
  floors_small (Stopped why done m) sound proper = All-nil IsSmallFloor

  pub fractions_few : (end : LpEnd) → IsSound p box end → All IsFraction (fractions_of end) → length (fractions_of end) ≤ QUANTITY_LIMIT
  fractions_few (Optimal point m done) sound proper = few_fractions point m sound.1 proper
  fractions_few (Empty m done) sound proper = omega arith
  fractions_few (Stopped why done m) sound proper = omega arith

  -- where a quantity's value at the end is not whole, the first such one is cut within the box
  pub cut_proper : (end : LpEnd) → IsSound p box end → All IsFraction (fractions_of end)
      → IfSome (first_fractional (fractions_of end)) (λ _. IsCut box (first_cut (fractions_of end)).0 (first_cut (fractions_of end)).1)
  cut_proper (Optimal point m done) sound proper = cut_by point m sound.1 proper (first_fractional point) refl
  cut_proper (Empty m done) sound proper = tt
  cut_proper (Stopped why done m) sound proper = tt

-- the multipliers of an end that is true are admissible
pub multipliers_fitting : (p : System) (box : Range) (end : LpEnd) → IsSound p box end → All (IsFitting p) (multipliers_of end).entries
multipliers_fitting p box (Optimal point m done) sound = sound.0.admissible
multipliers_fitting p box (Empty m done) sound = sound.admissible
multipliers_fitting p box (Stopped why done m) sound = sound.admissible

pub guide_end-is : (p : System) (box : Range) → guide_end p box ≡ end_of p box PIVOT_LIMIT
unfolding guide_end
guide_end-is p box = refl

-- the end of a solve of the system on the box, beside copies of both, is what the guide keeps
pub is_end_on : (p : System) (box : Range) → IsLimited p → IsOrdered box → LiesIn p.root box → (q : System) (range : Range) (end : LpEnd)
    → q ≡ p → range ≡ box → end ≡ end_of p box PIVOT_LIMIT → IsSound p box end → IsEndOn q range end
is_end_on p box limited ordered inside q range end same_system same_box reached sound =
    rw same_system
    (rw same_box
    (record {
      limited = limited;
      ordered = ordered;
      within = inside;
      reached = reached ∙ sym (guide_end-is p box);
      sound = sound;
    }))
