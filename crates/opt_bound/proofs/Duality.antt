-- Weak duality: admissible multipliers bound q times the value of each point of a box that meets the rows.
use Rattle.std.proofs.Common.{◌≡◌, ℕ, ◌≤◌, ◌<◌, List, length, get_or, ℤ, pos, ◌-ℤ◌, ◌*ℤ◌, negsuc, ◌≤ℤ◌, ap, ◌∙◌, arith}
use Rattle.std.specs.Int.{int_min}
use Rattle.std.proofs.lemmas.Int.{ints, clamps}
use Rattle.std.proofs.Math.ListN.{get_or-eq_default}
use Rattle.opt_sums.specs.Sums.{at, sum_to}
use Rattle.opt_sums.specs.Entries.{coef, dot, weighted_sum}
use Rattle.opt_sums.proofs.Ring.{sub_mul, mul_assoc, mul_le, mul_ge}
use Rattle.opt_sums.proofs.SumLemmas.{sum_to-same, sum_to-sub, sum_to-mul, sum_to-le}
use Rattle.opt_sums.proofs.EntryLemmas.{weighted_sum-mul, weighted_sum-same, weighted_sum-le, sum_to-coef, sum_to-exchange}
use Rattle.opt_system.specs.declared.rows.RowKind.{RowKind}
use Rattle.opt_system.specs.declared.rows.RowKind.TheVariants.{Ge, Eq}
use Rattle.opt_system.specs.Ranges.{Range, IsWithin}
use Rattle.opt_system.specs.Rows.{Stands}
use Rattle.opt_system.specs.Systems.{System, Meets, row_at, value}
use Rattle.opt_bound.specs.Multipliers.{Multipliers, IsAdmissible, MayWeigh}
use Rattle.opt_bound.specs.Bound.{reduced_cost_of, right_hand_side_of, least_of, bound_of}

-- the lesser product with the ends of a range is no greater than that with a number in it
least_le : (d low high x : ℤ) → low ≤ℤ x → x ≤ℤ high → int_min (d *ℤ low) (d *ℤ high) ≤ℤ (d *ℤ x)
least_le (pos n) low high x h k =
    let p : (pos n *ℤ low) ≤ℤ (pos n *ℤ x) = mul_le (pos n) low x (omega (arith, ints)) h in
    omega (arith, ints, clamps)
least_le (negsuc n) low high x h k =
    let p : (negsuc n *ℤ high) ≤ℤ (negsuc n *ℤ x) = mul_ge (negsuc n) x high (omega (arith, ints)) k in
    omega (arith, ints, clamps)

-- the coefficients of row i say its sum at the point
dot_is : (p : System) (x : List ℤ) (i : ℕ) → length x ≤ length p.cost → sum_to (length p.cost) (λ j. coef (row_at p.rows i).terms j *ℤ at x j) ≡ dot (row_at p.rows i).terms x
dot_is p x i h = sum_to-coef (length p.cost) (row_at p.rows i).terms (at x) (λ k past. get_or-eq_default x (pos 0) (omega arith))

-- the reduced costs at the point sum to q times its value less the weighted sums of the rows
pub reduced_costs_is : (p : System) (m : Multipliers) (x : List ℤ) → length x ≤ length p.cost → sum_to (length p.cost) (λ j. reduced_cost_of p m j *ℤ at x j) ≡ (m.q *ℤ value p x) -ℤ weighted_sum m.entries (λ i. dot (row_at p.rows i).terms x)
reduced_costs_is p m x h =
    sum_to-same (length p.cost) (λ j. reduced_cost_of p m j *ℤ at x j) (λ j. (m.q *ℤ (at p.cost j *ℤ at x j)) -ℤ weighted_sum m.entries (λ i. coef (row_at p.rows i).terms j *ℤ at x j))
    (λ j _. omega (arith, ints, sub_mul (m.q *ℤ at p.cost j) (weighted_sum m.entries (λ i. coef (row_at p.rows i).terms j)) (at x j), mul_assoc m.q (at p.cost j) (at x j), weighted_sum-mul m.entries (λ i. coef (row_at p.rows i).terms j) (at x j)))
    ∙ sum_to-sub (length p.cost) (λ j. m.q *ℤ (at p.cost j *ℤ at x j)) (λ j. weighted_sum m.entries (λ i. coef (row_at p.rows i).terms j *ℤ at x j))
    ∙ omega (
      arith,
      ints,
      sum_to-mul (length p.cost) m.q (λ j. at p.cost j *ℤ at x j),
      sum_to-exchange (length p.cost) m.entries (λ i j. coef (row_at p.rows i).terms j *ℤ at x j),
      weighted_sum-same m.entries (λ i. sum_to (length p.cost) (λ j. coef (row_at p.rows i).terms j *ℤ at x j)) (λ i. dot (row_at p.rows i).terms x) (λ k d _. dot_is p x (get_or m.entries k d).0 h),
    )

-- a multiplier of a row that stands keeps the order of its sides
weighed_le : (kind : RowKind) (y left right : ℤ) → MayWeigh kind y → Stands kind left right → (y *ℤ right) ≤ℤ (y *ℤ left)
weighed_le Ge y left right weigh stands = mul_le y right left (omega (arith, ints)) stands
weighed_le Eq y left right weigh stands = omega (arith, ints, ap (λ n. y *ℤ n) stands)

-- the weighted sum of the right-hand sides is no greater than that of the rows' sums at a point that meets them
rights_le : (p : System) (m : Multipliers) (x : List ℤ) → IsAdmissible p m → Meets p x → right_hand_side_of p m ≤ℤ weighted_sum m.entries (λ i. dot (row_at p.rows i).terms x)
rights_le p m x admissible meets =
    weighted_sum-le m.entries (λ i. (row_at p.rows i).right_hand_side) (λ i. dot (row_at p.rows i).terms x)
    (λ k d h. weighed_le (row_at p.rows (get_or m.entries k d).0).kind (get_or m.entries k d).1 (dot (row_at p.rows (get_or m.entries k d).0).terms x) (row_at p.rows (get_or m.entries k d).0).right_hand_side (admissible k d h).1 (meets.rows_hold (get_or m.entries k d).0 _ (admissible k d h).0))

-- weak duality of linear programming
pub weak_duality : (p : System) (box : Range) (m : Multipliers) (x : List ℤ) → length p.cost ≡ length p.root.low → IsAdmissible p m → Meets p x → IsWithin box x → bound_of p box m ≤ℤ (m.q *ℤ value p x)
weak_duality p box m x cost_each admissible meets inside =
    let short : length x ≤ length p.cost = omega (arith, meets.in_range.same_length) in
    let rights : right_hand_side_of p m ≤ℤ weighted_sum m.entries (λ i. dot (row_at p.rows i).terms x) = rights_le p m x admissible meets in
    let parts : sum_to (length p.cost) (least_of p box m) ≤ℤ sum_to (length p.cost) (λ j. reduced_cost_of p m j *ℤ at x j) =
    sum_to-le (length p.cost) (least_of p box m) (λ j. reduced_cost_of p m j *ℤ at x j)
    (λ j h.
    let in_x : j < length x = omega (arith, meets.in_range.same_length) in
    least_le (reduced_cost_of p m j) (at box.low j) (at box.high j) (at x j) (inside.above j in_x) (inside.below j in_x))
    in
    omega (arith, ints, reduced_costs_is p m x short)
