-- The steps of the rounding search: what the last box gives, what a fixed quantity leads to, and that a quantity that is not
-- whole had room.
use Rattle.std.proofs.Common.{◌≡◌, ℕ, ◌+◌, ◌^◌, ◌<◌, Option, Some, None, List, [], ◌∷◌, ◌++◌, map, length, take, min, ℤ, pos, ◌<ℤ◌, ◌≤ℤ◌, ◌≤◌, unsigned_abs, All, IfSome, refl, sym, subst, ap, ◌∙◌, arith}
use Rattle.std.proofs.lemmas.Int.{ints}
use Rattle.std.proofs.lemmas.List.{map_more}
use Rattle.opt_base.specs.declared.limits.TheConstants.{QUANTITY_LIMIT}
use Rattle.opt_sums.specs.Sums.{at}
use Rattle.opt_system.specs.Ranges.{Range, IsOrdered, LiesIn}
use Rattle.opt_system.specs.Cuts.{IsCut}
use Rattle.opt_system.specs.Systems.{System, IsLimited}
use Rattle.opt_bound.specs.Multipliers.{Multipliers}
use Rattle.opt_simplex.specs.declared.end.LpEnd.{LpEnd}
use Rattle.opt_simplex.specs.declared.end.LpEnd.TheVariants.{Optimal, Empty, Stopped}
use Rattle.opt_simplex.specs.Kept.{IsFraction}
use Rattle.opt_simplex.specs.Soundness.{IsOptimal, IsSound, fraction_at}
use Rattle.opt_simplex.specs.Guide.{guide_end, fractions_of, first_fractional, first_cut, cut_at, floor_of}
use Rattle.opt_system.proofs.CutLemmas.{LiesIn-trans}
use Rattle.opt_simplex.proofs.GuideLemmas.{floors_small, cut_proper}
use Rattle.opt_dive.specs.Rounding.{IsLast, IsRoundingOf, LeadsTo, round_up, fix_up, fix_first, fix_rations, optimum_of}
use Rattle.opt_dive.proofs.FixLemmas.{room, room-fix}

pub fractions-optimum : (end : LpEnd) (point : List (ℤ × ℤ)) → Some point ≡ optimum_of end → fractions_of end ≡ point
fractions-optimum (Optimal fs m done) point e = cc
fractions-optimum (Empty m done) point e = absurd (cc)
fractions-optimum (Stopped why done m) point e = absurd (cc)

last_whole : (end : LpEnd) (point : List (ℤ × ℤ)) → Some point ≡ optimum_of end → first_fractional point ≡ None → IsLast end (Some (map floor_of point))
last_whole (Optimal fs m done) point e whole =
    let same : fs ≡ point = cc in
    subst (λ p. (first_fractional fs ≡ None) × (Some (map floor_of p) ≡ Some (map floor_of fs))) same (subst (λ p. first_fractional p ≡ None) (sym same) whole, refl)
last_whole (Empty m done) point e whole = absurd (cc)
last_whole (Stopped why done m) point e whole = absurd (cc)

last_none : (end : LpEnd) → None ≡ optimum_of end → IsLast end None
last_none (Optimal fs m done) e = absurd (cc)
last_none (Empty m done) e = refl
last_none (Stopped why done m) e = refl

-- an end that is not optimal has no values
pub no_optimum : (end : LpEnd) → ((point : List (ℤ × ℤ)) (m : Multipliers) (done : ℕ) → end ≡ Optimal point m done → ⊥) → None ≡ optimum_of end
no_optimum (Optimal point m done) apart = absurd (apart point m done refl)
no_optimum (Empty m done) apart = refl
no_optimum (Stopped why done m) apart = refl

-- an optimum has few values
pub few_values : (s : System) (box : Range) (end : LpEnd) (point : List (ℤ × ℤ)) → IsLimited s → IsSound s box end → Some point ≡ optimum_of end → length point ≤ QUANTITY_LIMIT
few_values s box (Optimal fs m done) point limited sound e =
    let is : IsOptimal s box fs m = sound.1 in
    let same : fs ≡ point = cc in
    subst (λ p. length p ≤ QUANTITY_LIMIT) same
    (omega (arith, is.scaled.same_length, is.meets.same_length, limited.small.cost_each, limited.small.few_quantities, limited.ordered.same_length))
few_values s box (Empty m done) point limited sound e = absurd (cc)
few_values s box (Stopped why done m) point limited sound e = absurd (cc)

module _ (s : System) (box : Range) where
  -- where each value is whole, they are the point
  pub rounding-whole : (point : List (ℤ × ℤ)) → Some point ≡ optimum_of (guide_end s box) → first_fractional point ≡ None → IsRoundingOf s box (Some (map floor_of point))
  rounding-whole point e whole = record { fixed = []; leads = last_whole (guide_end s box) point e whole }

  -- where there is no optimum, there is no point
  pub rounding-none : None ≡ optimum_of (guide_end s box) → IsRoundingOf s box None
  rounding-none e = record { fixed = []; leads = last_none (guide_end s box) e }

  -- what the box with the first such quantity fixed gives, the box gives
  pub rounding-next : (point : List (ℤ × ℤ)) (j : ℕ) (x : Option (List ℤ)) → Some point ≡ optimum_of (guide_end s box) → first_fractional point ≡ Some j
      → IsRoundingOf s (fix_up point box j) x → IsRoundingOf s box x
  rounding-next point j x e first more =
      let same : fractions_of (guide_end s box) ≡ point = fractions-optimum (guide_end s box) point e in
      record {
        fixed = j ∷ more.fixed;
        leads = (ap first_fractional same ∙ first, subst (λ p. LeadsTo s more.fixed (fix_up p box j) x) (sym same) more.leads);
      }

  module _ (point : List (ℤ × ℤ)) (e : Some point ≡ optimum_of (guide_end s box)) (limited : IsLimited s) (ordered : IsOrdered box) (within : LiesIn s.root box)
      (sound : IsSound s box (guide_end s box)) (proper : All IsFraction point) where
    same_point : fractions_of (guide_end s box) ≡ point
    same_point = fractions-optimum (guide_end s box) point e

    pub small_floors : All (λ f. unsigned_abs (floor_of f) < 2 ^ 51) point
    small_floors =
        subst (All (λ f. unsigned_abs (floor_of f) < 2 ^ 51)) same_point
        (floors_small s box limited ordered within (guide_end s box) sound (subst (All IsFraction) (sym same_point) proper))

    cut_of : (fs : List (ℤ × ℤ)) (j : ℕ) → first_fractional fs ≡ Some j → IfSome (first_fractional fs) (λ _. IsCut box (first_cut fs).0 (first_cut fs).1)
        → IsCut box j (floor_of (fraction_at fs j))
    cut_of fs j first cut = subst (λ r. IfSome r (λ _. IsCut box (cut_at fs r).0 (cut_at fs r).1)) first cut

    -- the first quantity that is not whole has a range with room
    pub quantity_of : (j : ℕ) → first_fractional point ≡ Some j → IsCut box j (floor_of (fraction_at point j))
    quantity_of j first =
        subst (λ fs. IsCut box j (floor_of (fraction_at fs j))) same_point
        (cut_of (fractions_of (guide_end s box)) j (ap first_fractional same_point ∙ first)
        (cut_proper s box limited ordered within (guide_end s box) sound (subst (All IsFraction) (sym same_point) proper)))

    pub has_room : (j : ℕ) → first_fractional point ≡ Some j → at box.low j <ℤ at box.high j
    has_room j first =
        let cut : IsCut box j (floor_of (fraction_at point j)) = quantity_of j first in
        let from : at box.low j ≤ℤ floor_of (fraction_at point j) = cut.from_low in
        let below : floor_of (fraction_at point j) <ℤ at box.high j = cut.below_high in
        omega (arith, ints)

-- the box lies within the root, and what it gives, the first box gives
pub record IsOnWay (s : System) (start now : Range) : Type 0 where
  pub ordered : IsOrdered now
  pub within : LiesIn s.root now
  pub leads : (x : Option (List ℤ)) → IsRoundingOf s now x → IsRoundingOf s start x

pub way-start : (s : System) (box : Range) → IsOrdered box → LiesIn s.root box → IsOnWay s box box
way-start s box ordered within = record { ordered = ordered; within = within; leads = λ x rounding. rounding }

pub way-next : (s : System) (start now next : Range) (point : List (ℤ × ℤ)) (j : ℕ) → IsOnWay s start now → Some point ≡ optimum_of (guide_end s now) → first_fractional point ≡ Some j
    → next ≡ fix_up point now j → IsOrdered next → LiesIn now next → IsOnWay s start next
way-next s start now next point j way e first value ordered within =
    record {
      ordered = ordered;
      within = LiesIn-trans s.root now next way.within within;
      leads = λ x rounding. way.leads x (rounding-next s now point j x e first (subst (λ b. IsRoundingOf s b x) value rounding));
    }

-- ---- the floors of a point, one by one
pub floors-more : (point : List (ℤ × ℤ)) (j : ℕ) (now next : List ℤ) (z : ℤ) → j < length point → now ≡ map floor_of (take j point) → next ≡ now ++ z ∷ [] → z ≡ floor_of (fraction_at point j)
    → next ≡ map floor_of (take (j + 1) point)
floors-more point j now next z h so_far more is =
    more
    ∙ ap (λ zs. zs ++ z ∷ []) so_far
    ∙ ap (λ y. map floor_of (take j point) ++ y ∷ []) is
    ∙ sym (map_more floor_of point j (pos 0, pos 1) h)

-- ---- the box of a dive
pub dive-box : (s : System) (box part next : Range) (point : List (ℤ × ℤ)) (rations count quantities : ℕ) → IsLimited s → LiesIn s.root box → part ≡ box → count ≡ min rations quantities → quantities ≡ length s.cost
    → next ≡ fix_first count point part → next ≡ fix_rations rations point box
dive-box s box part next point rations count quantities limited within same is each value =
    value
    ∙ ap (fix_first count point) same
    ∙ ap (λ n. fix_first n point box) (is ∙ ap (min rations) (each ∙ limited.small.cost_each ∙ sym within.same_length))

-- ---- one turn
-- the box is on the way, its optimum is the point, and j is the first quantity whose value there is not whole
pub record IsTurn (s : System) (start now : Range) (point : List (ℤ × ℤ)) (j : ℕ) : Type 0 where
  pub limited : IsLimited s
  pub way : IsOnWay s start now
  pub sound : IsSound s now (guide_end s now)
  pub optimum : Some point ≡ optimum_of (guide_end s now)
  pub proper : All IsFraction point
  pub first : first_fractional point ≡ Some j

pub turn-quantity : (s : System) (start now : Range) (point : List (ℤ × ℤ)) (j : ℕ) → IsTurn s start now point j → j < length now.low
turn-quantity s start now point j turn =
    (quantity_of s now point turn.optimum turn.limited turn.way.ordered turn.way.within turn.sound turn.proper j turn.first).quantity

pub turn-next : (s : System) (start now next : Range) (point : List (ℤ × ℤ)) (j : ℕ) → IsTurn s start now point j → next ≡ fix_up point now j → IsOrdered next → LiesIn now next → IsOnWay s start next
turn-next s start now next point j turn value ordered within =
    way-next s start now next point j turn.way turn.optimum turn.first value ordered within

pub turn-room : (s : System) (start now next : Range) (point : List (ℤ × ℤ)) (j : ℕ) → IsTurn s start now point j → next ≡ fix_up point now j → room next < room now
turn-room s start now next point j turn value =
    subst (λ b. room b < room now) (sym value)
    (room-fix now j (round_up point now j) turn.way.ordered (turn-quantity s start now point j turn)
    (has_room s now point turn.optimum turn.limited turn.way.ordered turn.way.within turn.sound turn.proper j turn.first))
