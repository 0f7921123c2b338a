-- Boxes of one point: their bound, which multipliers show that the point breaks a row, and which give its value.
use Rattle.std.proofs.Common.{◌≡◌, ◌≢◌, ◌⊎◌, inl, inr, ℕ, zero, suc, ◌^◌, ◌≤◌, ◌<◌, List, [], length, ℤ, pos, negsuc, ◌+ℤ◌, ◌-ℤ◌, ◌*ℤ◌, ◌≤ℤ◌, ◌<ℤ◌, int_lt, unsigned_abs, true, false, cond, refl, ap, sym, ◌∙◌, arith}
use Rattle.std.specs.Int.{int_min, div_ceil}
use Rattle.std.proofs.lemmas.Int.{ints, clamps}
use Rattle.std.proofs.lemmas.Grind.{div_ceil_times}
use Rattle.opt_sums.specs.Sums.{at}
use Rattle.opt_sums.specs.Entries.{dot}
use Rattle.opt_sums.proofs.SumLemmas.{sum_to-same}
use Rattle.opt_sums.proofs.RisingLemmas.{IsRising-nil, IsRising-cons}
use Rattle.std.proofs.lemmas.List.Elements.{All-nil, All-cons}
use Rattle.opt_system.specs.declared.rows.RowKind.{RowKind}
use Rattle.opt_system.specs.declared.rows.RowKind.TheVariants.{Ge, Eq}
use Rattle.opt_system.specs.Ranges.{Range}
use Rattle.opt_system.specs.Rows.{Stands}
use Rattle.opt_system.specs.Systems.{System, IsFirstBroken, row_at, value}
use Rattle.opt_bound.specs.declared.leaf.Leaf.TheVariants.{Empty, AtLeast}
use Rattle.opt_bound.specs.Multipliers.{Multipliers, IsProper, IsFitting, IsAdmissible, MayWeigh}
use Rattle.opt_bound.specs.Bound.{reduced_cost_of, right_hand_side_of, least_of, bound_of, point_bound_of, unit_of, unit_multipliers, trivial_multipliers}
use Rattle.opt_bound.specs.Verdict.{leaf_of}
use Rattle.opt_bound.proofs.Duality.{reduced_costs_is}

-- ---- the bound
least_alone : (a : ℤ) → int_min a a ≡ a
least_alone a = omega (arith, ints, clamps)

pub bound_of-point : (p : System) (box : Range) (m : Multipliers) → box.low ≡ box.high → length box.low ≤ length p.cost → bound_of p box m ≡ point_bound_of p m box.low
bound_of-point p box m one short =
    ap (λ s. right_hand_side_of p m +ℤ s)
    (sum_to-same (length p.cost) (least_of p box m) (λ j. reduced_cost_of p m j *ℤ at box.low j)
    (λ j h.
    ap (λ v. int_min (reduced_cost_of p m j *ℤ at box.low j) (reduced_cost_of p m j *ℤ at v j)) (sym one) ∙ least_alone (reduced_cost_of p m j *ℤ at box.low j))
    ∙ reduced_costs_is p m box.low short)

-- ---- a broken row
unit_up : (left right : ℤ) → left <ℤ right → unit_of left right ≡ pos 1
unit_up left right h =
    let less : int_lt left right ≡ true = grind (arith, ints) in
    ap (λ b. cond b (pos 1) (negsuc 0)) less

unit_down : (left right : ℤ) → right <ℤ left → unit_of left right ≡ negsuc 0
unit_down left right h =
    let more : int_lt left right ≡ false = grind (arith, ints) in
    ap (λ b. cond b (pos 1) (negsuc 0)) more

sides : (left right : ℤ) → (left <ℤ right) ⊎ (right ≤ℤ left)
sides left right = grind (arith, ints)

apart_sides : (left right : ℤ) → left ≢ right → (left <ℤ right) ⊎ (right <ℤ left)
apart_sides left right h = grind (arith, ints)

-- the unit times the right-hand side is above the unit times the sum
above_up : (left right : ℤ) → left <ℤ right → pos 0 <ℤ ((unit_of left right *ℤ right) -ℤ (unit_of left right *ℤ left))
above_up left right h = omega (arith, ints, ap (λ y. y *ℤ right) (unit_up left right h), ap (λ y. y *ℤ left) (unit_up left right h))

above_down : (left right : ℤ) → right <ℤ left → pos 0 <ℤ ((unit_of left right *ℤ right) -ℤ (unit_of left right *ℤ left))
above_down left right h = omega (arith, ints, ap (λ y. y *ℤ right) (unit_down left right h), ap (λ y. y *ℤ left) (unit_down left right h))

unit_above : (kind : RowKind) (left right : ℤ) → (Stands kind left right → ⊥) → pos 0 <ℤ ((unit_of left right *ℤ right) -ℤ (unit_of left right *ℤ left))
unit_above Ge left right broken =
    elim (sides left right) [
      | inl less ↦ above_up left right less
      | inr more ↦ absurd (broken more)
    ]
unit_above Eq left right broken =
    elim (apart_sides left right broken) [
      | inl less ↦ above_up left right less
      | inr more ↦ above_down left right more
    ]

unit_weighs : (kind : RowKind) (left right : ℤ) → (Stands kind left right → ⊥) → MayWeigh kind (unit_of left right)
unit_weighs Ge left right broken =
    elim (sides left right) [
      | inl less ↦ omega (arith, ints, unit_up left right less)
      | inr more ↦ absurd (broken more)
    ]
unit_weighs Eq left right broken = tt

unit_size : (left right : ℤ) → unsigned_abs (unit_of left right) ≡ 1
unit_size left right =
    elim (sides left right) [
      | inl less ↦ ap unsigned_abs (unit_up left right less)
      | inr more ↦
          let not_less : int_lt left right ≡ false = grind (arith, ints) in
          ap (λ b. unsigned_abs (cond b (pos 1) (negsuc 0))) not_less
    ]

-- the multipliers of a broken row are multipliers
pub IsProper-unit : (p : System) (x : List ℤ) (i : ℕ) → IsProper (unit_multipliers p x i)
IsProper-unit p x i =
    let size : unsigned_abs (unit_of (dot (row_at p.rows i).terms x) (row_at p.rows i).right_hand_side) ≡ 1 = unit_size (dot (row_at p.rows i).terms x) (row_at p.rows i).right_hand_side in
    record {
      q_from_zero = omega (arith, ints);
      q_small = omega arith;
      rising = IsRising-cons (i, unit_of (dot (row_at p.rows i).terms x) (row_at p.rows i).right_hand_side) [] (All-nil (λ d. i < d.0)) IsRising-nil;
      no_zero = All-cons (λ e. e.1 ≢ pos 0) (i, unit_of (dot (row_at p.rows i).terms x) (row_at p.rows i).right_hand_side) [] (λ zero. absurd (omega (arith, size, ap unsigned_abs zero))) (All-nil (λ e. e.1 ≢ pos 0));
      small = All-cons (λ e. unsigned_abs e.1 ≤ 2 ^ 56) (i, unit_of (dot (row_at p.rows i).terms x) (row_at p.rows i).right_hand_side) [] (omega (arith, size)) (All-nil (λ e. unsigned_abs e.1 ≤ 2 ^ 56));
    }

-- they are admissible
pub IsAdmissible-unit : (p : System) (x : List ℤ) (i : ℕ) → IsFirstBroken p.rows x i → IsAdmissible p (unit_multipliers p x i)
IsAdmissible-unit p x i first =
    All-cons (IsFitting p) (i, unit_of (dot (row_at p.rows i).terms x) (row_at p.rows i).right_hand_side) []
    (first.in_list, unit_weighs (row_at p.rows i).kind (dot (row_at p.rows i).terms x) (row_at p.rows i).right_hand_side first.broken)
    (All-nil (IsFitting p))

-- and show that the box of this point alone has no point that meets the rows
leaf_above : (b : ℤ) → pos 0 <ℤ b → leaf_of b (pos 0) ≡ Empty
leaf_above (pos zero) h = absurd (omega (arith, ints))
leaf_above (pos (suc n)) h = refl
leaf_above (negsuc n) h = absurd (omega (arith, ints))

pub leaf_of-unit : (p : System) (box : Range) (i : ℕ) → box.low ≡ box.high → length box.low ≤ length p.cost → IsFirstBroken p.rows box.low i → leaf_of (bound_of p box (unit_multipliers p box.low i)) (pos 0) ≡ Empty
leaf_of-unit p box i one short first =
    let above : pos 0 <ℤ ((unit_of (dot (row_at p.rows i).terms box.low) (row_at p.rows i).right_hand_side *ℤ (row_at p.rows i).right_hand_side) -ℤ (unit_of (dot (row_at p.rows i).terms box.low) (row_at p.rows i).right_hand_side *ℤ dot (row_at p.rows i).terms box.low)) =
    unit_above (row_at p.rows i).kind (dot (row_at p.rows i).terms box.low) (row_at p.rows i).right_hand_side first.broken
    in
    leaf_above (bound_of p box (unit_multipliers p box.low i)) (omega (arith, ints, bound_of-point p box (unit_multipliers p box.low i) one short))

-- ---- the value
bound_of-trivial : (p : System) (box : Range) → box.low ≡ box.high → length box.low ≤ length p.cost → bound_of p box trivial_multipliers ≡ value p box.low
bound_of-trivial p box one short = omega (arith, ints, bound_of-point p box trivial_multipliers one short)

by_one : (n : ℕ) → div_ceil (suc n) 1 ≡ suc n
by_one n = omega (arith, (div_ceil_times (suc n) 1 (omega arith)).0, (div_ceil_times (suc n) 1 (omega arith)).1)

leaf_whole : (b : ℤ) → pos 0 ≤ℤ b → leaf_of b (pos 1) ≡ AtLeast b
leaf_whole (pos zero) h = refl
leaf_whole (pos (suc n)) h = ap (λ k. AtLeast (pos k)) (by_one n)
leaf_whole (negsuc n) h = absurd (omega (arith, ints))

-- the objective alone gives the point's value
pub leaf_of-trivial : (p : System) (box : Range) → box.low ≡ box.high → length box.low ≤ length p.cost → pos 0 ≤ℤ value p box.low → leaf_of (bound_of p box trivial_multipliers) (pos 1) ≡ AtLeast (value p box.low)
leaf_of-trivial p box one short from_zero =
    ap (λ b. leaf_of b (pos 1)) (bound_of-trivial p box one short) ∙ leaf_whole (value p box.low) from_zero
