-- An optimum whose values are whole is a point of the system.
use Rattle.std.proofs.Common.{◌≡◌, ◌⊎◌, inl, inr, ℕ, ◌<◌, ◌≤◌, Bool, true, false, cond, not, Some, None, List, map, length, get_or, refl, ℤ, pos, ◌*ℤ◌, ◌≤ℤ◌, nat_lt, All, ap, sym, subst, ◌∙◌, arith}
use Rattle.std.specs.List.{position_or_len}
use Rattle.std.specs.Ordering.{int_eq}
use Rattle.std.specs.Int.{int_rem_euclid}
use Rattle.std.proofs.lemmas.Int.{ints}
use Rattle.std.proofs.lemmas.List.{get_or-map, get_or_past, length-map}
use Rattle.std.proofs.lemmas.List.Sums.{fails_before_first}
use Rattle.std.proofs.lemmas.Bool.Decides.{Decides-int_eq, nat_tests}
use Rattle.opt_sums.specs.Sums.{at}
use Rattle.opt_sums.specs.Entries.{dot}
use Rattle.opt_sums.proofs.EntryLemmas.{weighted_sum-same, weighted_sum-mul}
use Rattle.opt_frac.proofs.Steps.{mul_comm, mul_swap}
use Rattle.opt_system.specs.declared.rows.RowKind.{RowKind}
use Rattle.opt_system.specs.declared.rows.RowKind.TheVariants.{Ge, Eq}
use Rattle.opt_system.specs.Ranges.{Range, IsWithin, LiesIn}
use Rattle.opt_system.specs.Rows.{Stands}
use Rattle.opt_system.specs.Systems.{System, IsLimited, Meets}
use Rattle.opt_system.proofs.CutLemmas.{IsWithin-LiesIn}
use Rattle.opt_bound.specs.Multipliers.{Multipliers}
use Rattle.opt_simplex.specs.declared.end.LpEnd.{LpEnd}
use Rattle.opt_simplex.specs.declared.end.LpEnd.TheVariants.{Optimal, Empty, Stopped}
use Rattle.opt_simplex.specs.Kept.{IsFraction}
use Rattle.opt_simplex.specs.Soundness.{IsOptimal, IsSound, fraction_at}
use Rattle.opt_simplex.specs.Guide.{is_fractional, first_fractional, floor_of}
use Rattle.opt_dive.specs.Rounding.{optimum_of}
use Rattle.opt_simplex.proofs.FloorLemmas.{AreParts, parts_of, mul_le-cancel}

-- ---- a whole fraction is its floor
zero_rest : (z : ℤ) → not (int_eq z (pos 0)) ≡ false → z ≡ pos 0
zero_rest z h = (Decides-int_eq z (pos 0)).0 (yes (int_eq z (pos 0)) h)
  where
    yes : (b : Bool) → not b ≡ false → b ≡ true
    yes true h = refl
    yes false h = cc

whole_is : (f : ℤ × ℤ) → pos 1 ≤ℤ f.1 → is_fractional f ≡ false → f.0 ≡ f.1 *ℤ floor_of f
whole_is f positive whole =
    let are : AreParts f.0 f.1 = parts_of f.0 f.1 positive in
    let rest : int_rem_euclid f.0 f.1 ≡ pos 0 = zero_rest (int_rem_euclid f.0 f.1) whole in
    omega (arith, ints, are.parts, rest)

none_before : (n l : ℕ) → cond (nat_lt n l) (Some n) None ≡ None → l ≤ n
none_before n l e = grind (arith, nat_tests)

all_whole : (fs : List (ℤ × ℤ)) (j : ℕ) → first_fractional fs ≡ None → j < length fs → is_fractional (fraction_at fs j) ≡ false
all_whole fs j none h = fails_before_first is_fractional fs j (pos 0, pos 1) (omega (arith, h, none_before (position_or_len is_fractional fs) (length fs) none))

-- ---- factors
same_of_products : (s a b : ℤ) → pos 1 ≤ℤ s → s *ℤ a ≡ s *ℤ b → a ≡ b
same_of_products s a b h e =
    let up : a ≤ℤ b = mul_le-cancel s a b h (omega (arith, ints, e)) in
    let down : b ≤ℤ a = mul_le-cancel s b a h (omega (arith, ints, e)) in
    omega (arith, ints)

-- what stands to scale times a number, in scale times, stands to the number
stands_alone : (kind : RowKind) (s left right : ℤ) → pos 1 ≤ℤ s → Stands kind (s *ℤ left) (s *ℤ right) → Stands kind left right
stands_alone Ge s left right h stands = mul_le-cancel s right left h stands
stands_alone Eq s left right h stands = same_of_products s left right h stands

module _ (p : System) (box : Range) (point : List (ℤ × ℤ)) (m : Multipliers) (is : IsOptimal p box point m) (proper : All IsFraction point) (whole : first_fractional point ≡ None) where
  floor_at : (k : ℕ) → k < length point → at (map floor_of point) k ≡ floor_of (fraction_at point k)
  floor_at k h = get_or-map floor_of point k (pos 0, pos 1) (pos 0) h

  below_or_past : (k n : ℕ) → (k < n) ⊎ (n ≤ k)
  below_or_past k n = grind arith

  -- scale times each floor is what the scaled point has
  scaled_floor : (k : ℕ) → at is.x k ≡ is.scale *ℤ at (map floor_of point) k
  scaled_floor k =
      elim (below_or_past k (length point)) [
        | inl h ↦
            let f : ℤ × ℤ = fraction_at point k in
            let positive : pos 1 ≤ℤ f.1 = (proper k (pos 0, pos 1) h).denominator_positive in
            let parts : f.0 ≡ f.1 *ℤ floor_of f = whole_is f positive (all_whole point k whole h) in
            let products : f.1 *ℤ at is.x k ≡ f.1 *ℤ (is.scale *ℤ floor_of f) =
            mul_comm f.1 (at is.x k) ∙ is.scaled.equal k h ∙ ap (λ n. is.scale *ℤ n) parts ∙ mul_swap is.scale f.1 (floor_of f) in
            same_of_products f.1 (at is.x k) (is.scale *ℤ floor_of f) positive products ∙ ap (λ n. is.scale *ℤ n) (sym (floor_at k h))
        | inr h ↦
            let none : at (map floor_of point) k ≡ pos 0 = get_or_past (map floor_of point) k (pos 0) (omega (arith, h, length-map point floor_of)) in
            let past : at is.x k ≡ pos 0 = get_or_past is.x k (pos 0) (omega (arith, h, is.scaled.same_length)) in
            let zero : is.scale *ℤ pos 0 ≡ pos 0 = omega (arith, ints) in
            past ∙ sym zero ∙ ap (λ n. is.scale *ℤ n) (sym none)
      ]

  scaled_sum : (terms : List (ℕ × ℤ)) → dot terms is.x ≡ is.scale *ℤ dot terms (map floor_of point)
  scaled_sum terms =
      weighted_sum-same terms (at is.x) (λ k. at (map floor_of point) k *ℤ is.scale) (λ i d h. scaled_floor (get_or terms i d).0 ∙ mul_comm is.scale (at (map floor_of point) (get_or terms i d).0))
      ∙ weighted_sum-mul terms (at (map floor_of point)) is.scale
      ∙ mul_comm (dot terms (map floor_of point)) is.scale

  same_length : length (map floor_of point) ≡ length is.x
  same_length = length-map point floor_of ∙ sym is.scaled.same_length

  floors_within : length p.cost ≡ length box.low → IsWithin box (map floor_of point)
  floors_within costs = record {
    same_length = same_length ∙ is.meets.same_length ∙ costs;
    above = λ k h.
        mul_le-cancel is.scale (at box.low k) (at (map floor_of point) k) is.scaled.scale_positive
        (subst (λ n. (is.scale *ℤ at box.low k) ≤ℤ n) (scaled_floor k) (is.meets.above k (omega (arith, h, same_length))));
    below = λ k h.
        mul_le-cancel is.scale (at (map floor_of point) k) (at box.high k) is.scaled.scale_positive
        (subst (λ n. n ≤ℤ (is.scale *ℤ at box.high k)) (scaled_floor k) (is.meets.below k (omega (arith, h, same_length))));
  }

  -- the floors meet the system
  pub floors_meet : LiesIn p.root box → length p.cost ≡ length box.low → Meets p (map floor_of point)
  floors_meet within costs = record {
    in_range = IsWithin-LiesIn p.root box (map floor_of point) within (floors_within costs);
    rows_hold = λ i d h.
        let row = get_or p.rows i d in
        stands_alone row.kind is.scale (dot row.terms (map floor_of point)) row.right_hand_side is.scaled.scale_positive
        (subst (λ n. Stands row.kind n (is.scale *ℤ row.right_hand_side)) (scaled_sum row.terms) (is.meets.rows_hold i d h));
  }

pub whole_meets : (s : System) (box : Range) (end : LpEnd) (point : List (ℤ × ℤ)) → Some point ≡ optimum_of end → IsSound s box end → All IsFraction point → first_fractional point ≡ None
    → IsLimited s → LiesIn s.root box → Meets s (map floor_of point)
whole_meets s box (Optimal fs m done) point e sound proper whole limited within =
    let same : point ≡ fs = cc in
    subst (λ p. Meets s (map floor_of p)) (sym same)
    (floors_meet s box fs m sound.1 (subst (All IsFraction) same proper) (subst (λ p. first_fractional p ≡ None) same whole) within
    (limited.small.cost_each ∙ sym within.same_length))
whole_meets s box (Empty m done) point e sound proper whole limited within = absurd (cc)
whole_meets s box (Stopped why done m) point e sound proper whole limited within = absurd (cc)
