-- Why no sum of a bound overflows: the sizes of reduced costs, of what a quantity can give, and of the weighted right-hand sides.
use Rattle.std.proofs.Common.{◌≡◌, ℕ, ◌+◌, ◌*◌, ◌^◌, ◌≤◌, ◌<◌, max, List, [], length, take, get_or, ℤ, pos, ◌+ℤ◌, ◌-ℤ◌, ◌*ℤ◌, ◌≤ℤ◌, ◌<ℤ◌, unsigned_abs, All, sum_by, ap, sym, ◌∙◌, arith}
use Rattle.std.specs.Int.{int_min}
use Rattle.std.proofs.lemmas.Int.{ints, clamps}
use Rattle.std.proofs.Math.ListN.{length-take}
use Rattle.std.proofs.Math.Seq.{take-length}
use Rattle.std.proofs.Math.Nat.{mul-le-mul_left, mul-le-mul_right}
use Rattle.std.proofs.lemmas.List.Elements.{All-take, All-weaker}
use Rattle.opt_sums.specs.Sums.{at, sum_to}
use Rattle.opt_sums.specs.Entries.{coef, weighted_sum, AllBelow}
use Rattle.opt_sums.proofs.Ring.{mul_le, mul_ge, size_add, size_sub, size_mul}
use Rattle.opt_sums.proofs.SumLemmas.{total_to-add, total_to-constant, total_to-more, total_to-part, size_sum_to-by}
use Rattle.opt_sums.proofs.EntryLemmas.{weighted_sum-swap, weighted_sum-same, size_sum_over}
use Rattle.opt_sums.proofs.RisingLemmas.{size_coef, size_sum_over-most, sum_by-rising, sum_by-take_le}
use Rattle.opt_system.specs.declared.rows.Row.{Row}
use Rattle.opt_system.specs.Ranges.{Range, IsOrdered, LiesIn}
use Rattle.opt_system.specs.Rows.{column_of}
use Rattle.opt_system.specs.Systems.{System, IsLimited, row_at}
use Rattle.opt_system.proofs.ColumnFacts.{All-column_of, coef-column_of, total-column_of}
use Rattle.opt_system.proofs.LimitLemmas.{size_high}
use Rattle.opt_bound.specs.Multipliers.{Multipliers, IsProper}
use Rattle.opt_bound.specs.Bound.{reduced_cost_of, right_hand_side_of, least_of}

-- the factor by which a quantity's coefficients are bounded: its greatest value, or 1
abbrev pub factor : System → ℕ → ℕ
factor p j = max (unsigned_abs (at p.root.high j)) 1

-- the reduced cost, by the column
abbrev pub part_reduced_cost : System → Multipliers → ℕ → List (ℕ × ℤ) → ℤ
part_reduced_cost p m j entries = (m.q *ℤ at p.cost j) -ℤ weighted_sum entries (coef m.entries)

-- rows against columns
pub reduced_cost_is : (p : System) (m : Multipliers) (j : ℕ) → reduced_cost_of p m j ≡ part_reduced_cost p m j (column_of p.rows j)
reduced_cost_is p m j =
    ap (λ n. (m.q *ℤ at p.cost j) -ℤ n)
    (weighted_sum-same m.entries (λ i. coef (row_at p.rows i).terms j) (coef (column_of p.rows j)) (λ k d _. sym (coef-column_of p.rows j (get_or m.entries k d).0))
    ∙ weighted_sum-swap m.entries (column_of p.rows j))

-- the entries of a column name rows, and their coefficients are small
pub column_small : (p : System) (j : ℕ) → IsLimited p → All (λ e. (e.0 < length p.rows) × (unsigned_abs e.1 * factor p j < 2 ^ 51)) (column_of p.rows j)
column_small p j limited =
    All-column_of (λ k a. unsigned_abs a * max (unsigned_abs (at p.root.high k)) 1 < 2 ^ 51) p.rows j (λ k d h l e g. (limited.small.terms k d h l e g).1)

-- a column has no more entries than the system has terms
pub column_short : (p : System) (j : ℕ) → IsLimited p → j < length p.cost → length (column_of p.rows j) ≤ 262144
column_short p j limited h =
    omega (arith, total_to-part (length p.cost) j (λ k. length (column_of p.rows k)) h, total-column_of (length p.cost) p.rows, limited.few_terms)

-- a product of three sizes
three : (a b c x y : ℕ) → b ≤ x → a * c ≤ y → a * b * c ≤ x * y
three a b c x y h k =
    let first : a * c * b ≤ a * c * x = mul-le-mul_left (a * c) h in
    let second : a * c * x ≤ y * x = mul-le-mul_right x k in
    omega arith

-- a part of the reduced cost times the factor of its quantity
pub size_part_reduced_cost : (p : System) (m : Multipliers) (j : ℕ) (k : ℕ) → IsLimited p → IsProper m → j < length p.cost → unsigned_abs (part_reduced_cost p m j (take k (column_of p.rows j))) * factor p j ≤ 2 ^ 107 * (1 + length (column_of p.rows j))
size_part_reduced_cost p m j k limited proper h =
    let first : unsigned_abs (m.q *ℤ at p.cost j) * factor p j ≤ 2 ^ 107 =
    omega (arith, three (unsigned_abs (at p.cost j)) (unsigned_abs m.q) (factor p j) (2 ^ 56) (2 ^ 51) proper.q_small (omega (arith, limited.small.costs.small j h)), ap (λ n. n * factor p j) (size_mul m.q (at p.cost j)))
    in
    let each : All (λ e. unsigned_abs (e.1 *ℤ coef m.entries e.0) * factor p j ≤ 2 ^ 107) (take k (column_of p.rows j)) =
    All-take (λ e. unsigned_abs (e.1 *ℤ coef m.entries e.0) * factor p j ≤ 2 ^ 107) k (column_of p.rows j)
    (All-weaker (λ e. (e.0 < length p.rows) × (unsigned_abs e.1 * factor p j < 2 ^ 51)) (λ e. unsigned_abs (e.1 *ℤ coef m.entries e.0) * factor p j ≤ 2 ^ 107)
    (λ e small. omega (arith, three (unsigned_abs e.1) (unsigned_abs (coef m.entries e.0)) (factor p j) (2 ^ 56) (2 ^ 51) (size_coef m.entries e.0 (2 ^ 56) proper.rising proper.small) (omega (arith, small.1)), ap (λ n. n * factor p j) (size_mul e.1 (coef m.entries e.0))))
    (column_of p.rows j) (column_small p j limited))
    in
    let rest : unsigned_abs (weighted_sum (take k (column_of p.rows j)) (coef m.entries)) * factor p j ≤ 2 ^ 107 * length (take k (column_of p.rows j)) =
    size_sum_over (take k (column_of p.rows j)) (coef m.entries) (factor p j) (2 ^ 107) each
    in
    omega (arith, first, rest, length-take k (column_of p.rows j), mul-le-mul_right (factor p j) (size_sub (m.q *ℤ at p.cost j) (weighted_sum (take k (column_of p.rows j)) (coef m.entries))))

-- a size is no greater than its product with a factor
size_alone : (a c y : ℕ) → 1 ≤ c → a * c ≤ y → a ≤ y
size_alone a c y h k = omega (arith, mul-le-mul_left a h)

-- so each part of the reduced cost fits
pub part_reduced_cost_fits : (p : System) (m : Multipliers) (j : ℕ) (k : ℕ) → IsLimited p → IsProper m → j < length p.cost → unsigned_abs (part_reduced_cost p m j (take k (column_of p.rows j))) ≤ 2 ^ 107 * 262145
part_reduced_cost_fits p m j k limited proper h =
    size_alone (unsigned_abs (part_reduced_cost p m j (take k (column_of p.rows j)))) (factor p j) (2 ^ 107 * 262145) (omega arith)
    (omega (arith, size_part_reduced_cost p m j k limited proper h, column_short p j limited h))

-- the reduced cost times the factor of its quantity
pub size_reduced_cost : (p : System) (m : Multipliers) (j : ℕ) → IsLimited p → IsProper m → j < length p.cost → unsigned_abs (reduced_cost_of p m j) * factor p j ≤ 2 ^ 107 * (1 + length (column_of p.rows j))
size_reduced_cost p m j limited proper h =
    omega (arith, size_part_reduced_cost p m j (length (column_of p.rows j)) limited proper h, ap (λ n. unsigned_abs n * factor p j) (reduced_cost_is p m j ∙ ap (part_reduced_cost p m j) (sym (take-length (column_of p.rows j)))))

-- the reduced cost times a value in the box
pub size_end : (p : System) (m : Multipliers) (j : ℕ) (v : ℤ) → IsLimited p → IsProper m → j < length p.cost → unsigned_abs v ≤ unsigned_abs (at p.root.high j) → unsigned_abs (reduced_cost_of p m j *ℤ v) ≤ 2 ^ 107 * (1 + length (column_of p.rows j))
size_end p m j v limited proper h small =
    let grows : unsigned_abs (reduced_cost_of p m j) * unsigned_abs v ≤ unsigned_abs (reduced_cost_of p m j) * factor p j = mul-le-mul_left (unsigned_abs (reduced_cost_of p m j)) (omega arith) in
    omega (arith, size_mul (reduced_cost_of p m j) v, size_reduced_cost p m j limited proper h)

-- the values at the ends of the box are no greater than the root's greatest
pub size_low : (p : System) (box : Range) (j : ℕ) → IsLimited p → LiesIn p.root box → IsOrdered box → j < length p.cost → unsigned_abs (at box.low j) ≤ unsigned_abs (at p.root.high j)
size_low p box j limited inside ordered h =
    let in_box : j < length box.low = omega (arith, limited.small.cost_each, inside.same_length) in
    let from : pos 0 ≤ℤ at box.low j = ordered.from_zero j in_box in
    let rising : at box.low j ≤ℤ at box.high j = ordered.rising j in_box in
    omega (arith, ints, size_high p.root box j ordered inside in_box)

pub size_top : (p : System) (box : Range) (j : ℕ) → IsLimited p → LiesIn p.root box → IsOrdered box → j < length p.cost → unsigned_abs (at box.high j) ≤ unsigned_abs (at p.root.high j)
size_top p box j limited inside ordered h =
    size_high p.root box j ordered inside (omega (arith, limited.small.cost_each, inside.same_length))

-- the lesser of two numbers is no greater in size than both
size_min : (a b : ℤ) (most : ℕ) → unsigned_abs a ≤ most → unsigned_abs b ≤ most → unsigned_abs (int_min a b) ≤ most
size_min a b most h k = omega (arith, ints, clamps)

-- the least that a quantity can give in the box
pub size_least : (p : System) (box : Range) (m : Multipliers) (j : ℕ) → IsLimited p → IsProper m → LiesIn p.root box → IsOrdered box → j < length p.cost → unsigned_abs (least_of p box m j) ≤ 2 ^ 107 * (1 + length (column_of p.rows j))
size_least p box m j limited proper inside ordered h =
    size_min (reduced_cost_of p m j *ℤ at box.low j) (reduced_cost_of p m j *ℤ at box.high j) (2 ^ 107 * (1 + length (column_of p.rows j)))
    (size_end p m j (at box.low j) limited proper h (size_low p box j limited inside ordered h))
    (size_end p m j (at box.high j) limited proper h (size_top p box j limited inside ordered h))

-- each part of the weighted right-hand sides
pub size_rights : (p : System) (m : Multipliers) (k : ℕ) → IsLimited p → IsProper m → AllBelow (length p.rows) m.entries → unsigned_abs (weighted_sum (take k m.entries) (λ i. (row_at p.rows i).right_hand_side)) ≤ 2 ^ 120
size_rights p m k limited proper named =
    let small : unsigned_abs (weighted_sum (take k m.entries) (λ i. (row_at p.rows i).right_hand_side)) ≤ 2 ^ 56 * sum_by (λ e. unsigned_abs (row_at p.rows e.0).right_hand_side) (take k m.entries) =
    size_sum_over-most (take k m.entries) (λ i. (row_at p.rows i).right_hand_side) (2 ^ 56) (All-take (λ e. unsigned_abs e.1 ≤ 2 ^ 56) k m.entries proper.small)
    in
    let whole : sum_by (λ e. unsigned_abs (row_at p.rows e.0).right_hand_side) (take k m.entries) ≤ sum_by (λ (e : ℕ × ℤ). unsigned_abs (row_at p.rows e.0).right_hand_side) m.entries =
    sum_by-take_le (λ (e : ℕ × ℤ). unsigned_abs (row_at p.rows e.0).right_hand_side) m.entries k
    in
    omega (arith, small, whole, sum_by-rising (λ (row : Row). unsigned_abs row.right_hand_side) p.rows (row_at [] 0) m.entries proper.rising named, limited.small.rights)

-- each part of the bound
pub size_bound : (p : System) (box : Range) (m : Multipliers) (k : ℕ) → IsLimited p → IsProper m → LiesIn p.root box → IsOrdered box → AllBelow (length p.rows) m.entries → k ≤ length p.cost → unsigned_abs (right_hand_side_of p m +ℤ sum_to k (least_of p box m)) ≤ 2 ^ 120 + 2 ^ 107 * 282144
size_bound p box m k limited proper inside ordered named h =
    omega (
      arith,
      size_add (right_hand_side_of p m) (sum_to k (least_of p box m)),
      size_rights p m (length m.entries) limited proper named,
      ap (λ es. unsigned_abs (weighted_sum es (λ i. (row_at p.rows i).right_hand_side))) (take-length m.entries),
      size_sum_to-by k (least_of p box m) (2 ^ 107) (λ j. 1 + length (column_of p.rows j)) (λ j below. size_least p box m j limited proper inside ordered (omega arith)),
      total_to-add k (λ _. 1) (λ j. length (column_of p.rows j)),
      total_to-constant k 1,
      total_to-more k (length p.cost) (λ j. length (column_of p.rows j)) h,
      total-column_of (length p.cost) p.rows,
      limited.few_terms,
      limited.small.cost_each,
      limited.small.few_quantities,
    )

-- ---- the lesser end
-- from 0 on a reduced cost is least at the low end
pub least_at_low : (d low high : ℤ) → pos 0 ≤ℤ d → low ≤ℤ high → int_min (d *ℤ low) (d *ℤ high) ≡ d *ℤ low
least_at_low d low high h k =
    let p : (d *ℤ low) ≤ℤ (d *ℤ high) = mul_le d low high h k in
    omega (arith, ints, clamps)

-- below 0 a reduced cost is least at the high end
pub least_at_high : (d low high : ℤ) → d <ℤ pos 0 → low ≤ℤ high → int_min (d *ℤ low) (d *ℤ high) ≡ d *ℤ high
least_at_high d low high h k =
    let p : (d *ℤ high) ≤ℤ (d *ℤ low) = mul_ge d low high (omega (arith, ints)) k in
    omega (arith, ints, clamps)

-- so where the reduced cost and the end are these numbers
pub least_is_low : (d s e low high : ℤ) → s ≡ d → e ≡ low → pos 0 ≤ℤ d → low ≤ℤ high → s *ℤ e ≡ int_min (d *ℤ low) (d *ℤ high)
least_is_low d s e low high p q h k = rw (p, q) (sym (least_at_low d low high h k))

pub least_is_high : (d s e low high : ℤ) → s ≡ d → e ≡ high → d <ℤ pos 0 → low ≤ℤ high → s *ℤ e ≡ int_min (d *ℤ low) (d *ℤ high)
least_is_high d s e low high p q h k = rw (p, q) (sym (least_at_high d low high h k))
