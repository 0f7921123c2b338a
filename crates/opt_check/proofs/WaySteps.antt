-- The steps of a walk through the boxes of a tree.
use Rattle.std.proofs.Common.{◌≡◌, ℕ, ◌+◌, Bool, true, false, List, [], ◌∷◌, ◌++◌, length, drop, take, set, reverse, slice_get, Some, ℤ, pos, ◌+ℤ◌, ap, sym, ◌∙◌, subst, arith}
use Rattle.std.proofs.lemmas.Int.{ints}
use Rattle.std.proofs.lemmas.List.{length-set, set-set, set-get_or, set_at, reverse-append, take-append-drop, length-take-le, length-drop}
use Rattle.opt_sums.specs.Sums.{at}
use Rattle.opt_system.specs.Ranges.{Range, IsOrdered}
use Rattle.opt_system.specs.Cuts.{left_half, right_half}
use Rattle.opt_system.proofs.CutLemmas.{at-set_same}
use Rattle.opt_check.specs.declared.way.Cut.{Cut}
use Rattle.opt_check.specs.declared.way.Turn.{Turn}
use Rattle.opt_check.specs.declared.way.Turn.TheVariants.{Left, Right}
use Rattle.opt_check.specs.Way.{whole, waiting, waiting_after, IsWay, IsWayTo, CanSplit, after_split}

-- the first of a list, and the others
pub first_and_rest : {X : Type 0} (xs : List X) (x : X) → slice_get xs 0 ≡ Some x → xs ≡ x ∷ drop 1 xs
first_and_rest [] x h = cc
first_and_rest (y ∷ xs) x h = let e : y ≡ x = cc in ap (λ z. z ∷ xs) e

-- ---- to a left half
whole_left : (box : Range) (c : Cut) (high : ℤ) → high ≡ at box.high c.quantity → whole (left_half box c.quantity c.at) (Left c high) ≡ box
whole_left box c high is =
    ap (λ h. record { low = box.low; high = h }) (set-set box.high c.quantity c.at high ∙ ap (set box.high c.quantity) is ∙ set-get_or box.high c.quantity (pos 0))

-- what is kept when the box at hand is split
pub record Entered (over : Bool) (box half : Range) (turns way : List Turn) (c : Cut) : Type 0 where
  pub leads : IsWayTo over half way
  pub waits : waiting over half way ≡ after_split c.quantity c.at (waiting over box turns)

enters : (over : Bool) (box : Range) (turns : List Turn) (c : Cut) (high : ℤ) → high ≡ at box.high c.quantity → CanSplit (waiting over box turns) c.quantity c.at → IsWayTo over box turns → Entered over box (left_half box c.quantity c.at) turns (Left c high ∷ turns) c
enters true box turns c high is cut leads = absurd cut
enters false box turns c high is cut leads =
    let back : whole (left_half box c.quantity c.at) (Left c high) ≡ box = whole_left box c high is in
    record {
      leads = ((cut.quantity, cut.from_low, omega (arith, ints, cut.below_high)), subst (λ (b : Range). IsWay b turns) (sym back) leads);
      waits = ap (λ (b : Range). left_half box c.quantity c.at ∷ right_half b c.quantity c.at ∷ waiting_after b turns) back;
    }

pub entered : (over : Bool) (box half : Range) (turns way : List Turn) (c : Cut) (v high : ℤ) → half ≡ record { low = box.low; high = set box.high c.quantity v } → way ≡ Left c high ∷ turns → v ≡ c.at → high ≡ at box.high c.quantity → CanSplit (waiting over box turns) c.quantity c.at → IsWayTo over box turns → Entered over box half turns way c
entered over box half turns way c v high half_is way_is e is cut leads =
    let base : Entered over box (left_half box c.quantity c.at) turns (Left c high ∷ turns) c = enters over box turns c high is cut leads in
    let left : half ≡ left_half box c.quantity c.at = half_is ∙ ap (λ z. record { low = box.low; high = set box.high c.quantity z }) e in
    record {
      leads = subst (λ (b : Range). IsWayTo over b way) (sym left) (subst (λ (w : List Turn). IsWayTo over (left_half box c.quantity c.at) w) (sym way_is) base.leads);
      waits = ap (λ (b : Range). waiting over b way) left ∙ ap (waiting over (left_half box c.quantity c.at)) way_is ∙ base.waits;
    }

-- ---- to a right half
whole_right : (box : Range) (j : ℕ) (t low : ℤ) → low ≡ at box.low j → whole (right_half box j t) (Right j low) ≡ box
whole_right box j t low is =
    ap (λ l. record { low = l; high = box.high }) (set-set box.low j (t +ℤ pos 1) low ∙ ap (set box.low j) is ∙ set-get_or box.low j (pos 0))

-- what is kept when the right half comes after the left one
pub record Turned (half new : Range) (turns way : List Turn) : Type 0 where
  pub leads : IsWay new way
  pub waits : new ∷ waiting_after new way ≡ waiting_after half turns

turns_right : (half : Range) (turns : List Turn) (c : Cut) (high low : ℤ) → IsOrdered half → low ≡ at half.low c.quantity → IsWay half (Left c high ∷ turns) → Turned half (right_half (whole half (Left c high)) c.quantity c.at) (Left c high ∷ turns) (Right c.quantity low ∷ turns)
turns_right half turns c high low ordered is way =
    let box : Range = whole half (Left c high) in
    let back : whole (right_half box c.quantity c.at) (Right c.quantity low) ≡ box = whole_right box c.quantity c.at low is in
    let top : at box.high c.quantity ≡ high = at-set_same half.high c.quantity high (omega (arith, ordered.same_length, way.0.0)) in
    record {
      leads = (
        (
          omega (arith, way.0.0, length-set half.low c.quantity (c.at +ℤ pos 1)),
          omega (arith, ints, is, ordered.from_zero c.quantity way.0.0),
          omega (arith, ints, is, top, way.0.1, way.0.2),
        ),
        subst (λ (b : Range). IsWay b turns) (sym back) way.1,
      );
      waits = ap (λ (b : Range). right_half box c.quantity c.at ∷ waiting_after b turns) back;
    }

pub turned : (half over new : Range) (turns way : List Turn) (c : Cut) (high u v low : ℤ) → slice_get turns 0 ≡ Some (Left c high) → over ≡ record { low = half.low; high = set half.high c.quantity u } → new ≡ record { low = set over.low c.quantity v; high = over.high } → way ≡ Right c.quantity low ∷ drop 1 turns → u ≡ high → v ≡ c.at +ℤ pos 1 → low ≡ at half.low c.quantity → IsOrdered half → IsWay half turns → Turned half new turns way
turned half over new turns way c high u v low last over_is new_is way_is e f is ordered leads =
    let parted : turns ≡ Left c high ∷ drop 1 turns = first_and_rest turns (Left c high) last in
    let box : Range = whole half (Left c high) in
    let base : Turned half (right_half box c.quantity c.at) (Left c high ∷ drop 1 turns) (Right c.quantity low ∷ drop 1 turns) =
    turns_right half (drop 1 turns) c high low ordered is (subst (λ (w : List Turn). IsWay half w) parted leads)
    in
    let right : new ≡ right_half box c.quantity c.at =
    new_is
    ∙ ap (λ (o : Range). record { low = set o.low c.quantity v; high = o.high }) over_is
    ∙ ap (λ z. record { low = set half.low c.quantity v; high = set half.high c.quantity z }) e
    ∙ ap (λ z. record { low = set half.low c.quantity z; high = set half.high c.quantity high }) f
    in
    record {
      leads = subst (λ (b : Range). IsWay b way) (sym right) (subst (λ (w : List Turn). IsWay (right_half box c.quantity c.at) w) (sym way_is) base.leads);
      waits =
          ap (λ (b : Range). b ∷ waiting_after b way) right
          ∙ ap (λ (w : List Turn). right_half box c.quantity c.at ∷ waiting_after (right_half box c.quantity c.at) w) way_is
          ∙ base.waits
          ∙ sym (ap (waiting_after half) parted);
    }

-- ---- the last of a list
pub reverse-set_last : {X : Type 0} (xs : List X) (n : ℕ) (x : X) → n + 1 ≡ length xs → reverse (set xs n x) ≡ x ∷ drop 1 (reverse xs)
reverse-set_last {X} xs n x h =
    parted (take n xs) (drop n xs) (length-take-le n xs (omega arith)) (omega (arith, length-drop n xs)) (take-append-drop n xs)
  where
    parted : (front back : List X) → length front ≡ n → length back ≡ 1 → front ++ back ≡ xs → reverse (set xs n x) ≡ x ∷ drop 1 (reverse xs)
    parted front [] p q is = absurd (omega arith)
    parted front (y ∷ z ∷ back) p q is = absurd (omega arith)
    parted front (y ∷ []) p q is =
        ap (λ (l : List X). reverse (set l n x)) (sym is)
        ∙ ap reverse (set_at front y [] x n p)
        ∙ reverse-append front (x ∷ [])
        ∙ ap (λ (l : List X). x ∷ drop 1 l) (sym (reverse-append front (y ∷ [])) ∙ ap reverse is)
