-- What the limits of a system give: short rows, small sums, and that a narrower root keeps them.
use Rattle.std.proofs.Common.{◌≡◌, ℕ, ◌*◌, ◌^◌, ◌≤◌, ◌<◌, max, List, length, get_or, ℤ, pos, ◌*ℤ◌, ◌≤ℤ◌, unsigned_abs, All, arith}
use Rattle.std.proofs.lemmas.Int.{ints}
use Rattle.std.proofs.Math.Nat.{mul-le-mul_left}
use Rattle.opt_sums.specs.Sums.{at}
use Rattle.opt_sums.specs.Entries.{AllBelow}
use Rattle.opt_sums.proofs.Ring.{mul_le, size_le, size_mul}
use Rattle.opt_sums.proofs.SumLemmas.{sum_to-not_negative, size_sum_to}
use Rattle.opt_sums.proofs.RisingLemmas.{length-rising}
use Rattle.opt_system.specs.declared.rows.Row.{Row}
use Rattle.opt_system.specs.Ranges.{Range, IsOrdered, IsWithin, LiesIn}
use Rattle.opt_system.specs.Rows.{IsEven}
use Rattle.opt_system.specs.Columns.{HoldColumns}
use Rattle.opt_system.specs.Stored.{IsStored}
use Rattle.opt_system.specs.Systems.{System, IsSmall, IsLimited, row_at, value}

-- a value of a point in the root is no greater than the greatest
pub size_point : (root : Range) (x : List ℤ) (j : ℕ) → IsOrdered root → IsWithin root x → j < length root.low → unsigned_abs (at x j) ≤ unsigned_abs (at root.high j)
size_point root x j ordered inside h =
    let in_x : j < length x = omega (arith, inside.same_length) in
    let from : pos 0 ≤ℤ at root.low j = ordered.from_zero j h in
    let above : at root.low j ≤ℤ at x j = inside.above j in_x in
    size_le (at x j) (at root.high j) (omega (arith, ints)) (inside.below j in_x)

-- a greatest value of an inner box is no greater than that of the outer one
pub size_high : (root inner : Range) (j : ℕ) → IsOrdered inner → LiesIn root inner → j < length inner.low → unsigned_abs (at inner.high j) ≤ unsigned_abs (at root.high j)
size_high root inner j ordered inside h =
    let from : pos 0 ≤ℤ at inner.low j = ordered.from_zero j h in
    let rising : at inner.low j ≤ℤ at inner.high j = ordered.rising j h in
    size_le (at inner.high j) (at root.high j) (omega (arith, ints)) (inside.below j h)

-- a product with a size is below the limit where it is with a greater size
small_by : (a b c : ℕ) → b ≤ max c 1 → a * max c 1 < 2 ^ 51 → a * b < 2 ^ 51
small_by a b c h k = omega (arith, mul-le-mul_left a h)

-- a row has at most as many terms as there are quantities
pub few_terms_of : (rows : List Row) (root : Range) (cost : List ℤ) → IsSmall rows root cost → All IsEven rows → All (λ row. length row.terms ≤ 20000) rows
few_terms_of rows root cost small even k d h =
    omega (arith, small.few_quantities, length-rising (length root.high) (get_or rows k d).terms (even k d h).rising (λ l e g. (small.terms k d h l e g).0))

-- the terms name the quantities that have costs
pub terms_in : (rows : List Row) (root : Range) (cost : List ℤ) → IsSmall rows root cost → IsOrdered root → All (λ row. AllBelow (length cost) row.terms) rows
terms_in rows root cost small ordered k d h l e g = omega (arith, (small.terms k d h l e g).0, small.cost_each, ordered.same_length)

-- the terms of a row name quantities
pub terms_named : (p : System) (i : ℕ) → IsLimited p → i < length p.rows → AllBelow (length p.root.low) (row_at p.rows i).terms
terms_named p i limited h k d g = omega (arith, (limited.small.terms i _ h k d g).0, limited.ordered.same_length)

-- the products of a row's coefficients with a point's values are small
pub terms_small : (p : System) (x : List ℤ) (i : ℕ) → IsLimited p → IsWithin p.root x → i < length p.rows → All (λ e. unsigned_abs e.1 * unsigned_abs (at x e.0) < 2 ^ 51) (row_at p.rows i).terms
terms_small p x i limited inside h k d g =
    small_by (unsigned_abs (get_or (row_at p.rows i).terms k d).1) (unsigned_abs (at x (get_or (row_at p.rows i).terms k d).0)) (unsigned_abs (at p.root.high (get_or (row_at p.rows i).terms k d).0))
    (omega (arith, size_point p.root x (get_or (row_at p.rows i).terms k d).0 limited.ordered inside (terms_named p i limited h k d g)))
    (limited.small.terms i _ h k d g).1

-- the products of the costs with a point's values are small
pub costs_small : (p : System) (x : List ℤ) (j : ℕ) → IsLimited p → IsWithin p.root x → j < length p.cost → unsigned_abs (at p.cost j) * unsigned_abs (at x j) < 2 ^ 51
costs_small p x j limited inside h =
    let named : j < length p.root.low = omega (arith, limited.small.cost_each) in
    small_by (unsigned_abs (at p.cost j)) (unsigned_abs (at x j)) (unsigned_abs (at p.root.high j)) (omega (arith, size_point p.root x j limited.ordered inside named)) (limited.small.costs.small j h)

-- a narrower root keeps the numbers small
pub IsSmall-narrowed : (rows : List Row) (root inner : Range) (cost : List ℤ) → IsSmall rows root cost → IsOrdered root → IsOrdered inner → LiesIn root inner → IsSmall rows inner cost
IsSmall-narrowed rows root inner cost small outer ordered inside = record {
  cost_each = omega (arith, small.cost_each, inside.same_length);
  few_quantities = omega (arith, small.few_quantities, ordered.same_length, outer.same_length, inside.same_length);
  costs = record {
    from_zero = small.costs.from_zero;
    small = λ j h.
        let in_inner : j < length inner.low = omega (arith, small.cost_each, inside.same_length) in
        small_by (unsigned_abs (at cost j)) (max (unsigned_abs (at inner.high j)) 1) (unsigned_abs (at root.high j)) (omega (arith, size_high root inner j ordered inside in_inner)) (small.costs.small j h);
    highs = λ j h.
        let in_inner : j < length inner.low = omega (arith, small.cost_each, inside.same_length) in
        omega (arith, size_high root inner j ordered inside in_inner, small.costs.highs j h);
  };
  terms = λ k d h l e g.
      let in_inner : (get_or (get_or rows k d).terms l e).0 < length inner.low = omega (arith, (small.terms k d h l e g).0, inside.same_length, outer.same_length) in (
        omega (arith, ordered.same_length, in_inner),
        small_by (unsigned_abs (get_or (get_or rows k d).terms l e).1) (max (unsigned_abs (at inner.high (get_or (get_or rows k d).terms l e).0)) 1) (unsigned_abs (at root.high (get_or (get_or rows k d).terms l e).0)) (omega (arith, size_high root inner (get_or (get_or rows k d).terms l e).0 ordered inside in_inner)) (small.terms k d h l e g).1,
      );
  rights = small.rights;
}

-- a system is kept well by copies of what is within the limits
pub IsStored-copies : (p : System) (rows : List Row) (root : Range) (cost : List ℤ) (terms : List (ℕ × ℤ)) (starts : List ℕ) → rows ≡ p.rows → root ≡ p.root → cost ≡ p.cost → IsLimited p → HoldColumns terms starts (length p.cost) p.rows → IsStored (record { rows = rows; root = root; cost = cost }) terms starts
IsStored-copies p rows root cost terms starts e f g limited by_column = rw (e, f, g) (record { limited = limited; by_column = by_column })

-- and so with a narrower root
pub IsLimited-narrowed : (p : System) (root : Range) → IsLimited p → IsOrdered root → LiesIn p.root root → IsLimited (record { rows = p.rows; root = root; cost = p.cost })
IsLimited-narrowed p root limited ordered inside = record {
  even = limited.even;
  ordered = ordered;
  small = IsSmall-narrowed p.rows p.root root p.cost limited.small limited.ordered ordered inside;
  few_rows = limited.few_rows;
  few_terms = limited.few_terms;
}

-- costs and quantities are from 0 on, so values are
pub value_from_zero : (p : System) (x : List ℤ) → IsLimited p → IsWithin p.root x → pos 0 ≤ℤ value p x
value_from_zero p x limited inside =
    sum_to-not_negative (length p.cost) (λ j. at p.cost j *ℤ at x j)
    (λ j h.
    let named : j < length p.root.low = omega (arith, limited.small.cost_each) in
    let from : pos 0 ≤ℤ at p.root.low j = limited.ordered.from_zero j named in
    let above : at p.root.low j ≤ℤ at x j = inside.above j (omega (arith, inside.same_length)) in
    let grows : (at p.cost j *ℤ pos 0) ≤ℤ (at p.cost j *ℤ at x j) = mul_le (at p.cost j) (pos 0) (at x j) (limited.small.costs.from_zero j h) (omega (arith, ints)) in
    omega (arith, ints))

-- and they are far below 2^126
pub value_small : (p : System) (x : List ℤ) → IsLimited p → IsWithin p.root x → value p x ≤ℤ pos (2 ^ 126)
value_small p x limited inside =
    let size : unsigned_abs (value p x) ≤ 2 ^ 51 * length p.cost =
    size_sum_to (length p.cost) (λ j. at p.cost j *ℤ at x j) (2 ^ 51) (λ j h. omega (arith, size_mul (at p.cost j) (at x j), costs_small p x j limited inside h))
    in
    omega (arith, ints, size, limited.small.cost_each, limited.ordered.same_length, limited.small.few_quantities)
