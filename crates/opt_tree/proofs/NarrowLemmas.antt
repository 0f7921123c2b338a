-- The way from a node up to the root gives its box.
use Rattle.std.proofs.Common.{◌≡◌, inl, inr, ℕ, ◌<◌, length, set, ℤ, pos, ◌≤ℤ◌, refl, ap, sym, ◌∙◌, arith}
use Rattle.std.specs.Int.{int_min, int_max}
use Rattle.std.proofs.lemmas.Int.{ints, clamps}
use Rattle.std.proofs.lemmas.List.{ext_get_or}
use Rattle.std.proofs.Math.ListN.{length-set}
use Rattle.opt_sums.specs.Sums.{at}
use Rattle.opt_sums.proofs.EntryLemmas.{same_or_other}
use Rattle.opt_system.specs.Ranges.{Range, IsOrdered, LiesIn}
use Rattle.opt_system.proofs.CutLemmas.{at-set_same, at-set_other}
use Rattle.opt_tree.specs.declared.node.End.{End}
use Rattle.opt_tree.specs.declared.node.End.TheVariants.{Low, High}
use Rattle.opt_tree.specs.declared.node.Link.{Link}
use Rattle.opt_tree.specs.Nodes.{IsInward, changed, with_end}
use Rattle.opt_tree.specs.Narrowed.{with_narrower, narrowed, side, LeavesSome, IsOnWay}

-- at first the root's ends are at hand
pub on_way_first : (root whole : Range) → IsOrdered root → IsOrdered whole → LiesIn root whole → IsOnWay root whole root whole
on_way_first root whole ordered inside lies = record {
  lows = sym lies.same_length;
  highs = omega (arith, lies.same_length, ordered.same_length, inside.same_length);
  low = λ j h. omega (arith, ints, clamps, lies.above j h);
  high = λ j h. omega (arith, ints, clamps, lies.below j (omega (arith, inside.same_length)));
  from_low = λ j h. omega (arith, ints);
  to_high = λ j h. omega (arith, ints);
}

-- one link up
up_by : (e : End) (root over box whole : Range) (q : ℕ) (v : ℤ) → IsOrdered over → q < length over.low → at over.low q ≤ℤ v → v ≤ℤ at over.high q → IsOnWay root (with_end e over q v) box whole → IsOnWay root over (with_narrower e box q v) whole
up_by High root over box whole q v ordered inside from to way = record {
  lows = way.lows;
  highs = omega (arith, way.highs, length-set box.high q (int_min (at box.high q) v));
  low = way.low;
  high = λ j h. elim (same_or_other j q) [
    | inl e ↦
        let p : j ≡ q = e in
        let here : q < length box.high = omega (arith, way.highs, p) in
        omega (arith, ints, clamps, ap (at box.high) p, ap (at over.high) p, ap (at (set over.high q v)) p, ap (at (set box.high q (int_min (at box.high q) v))) p, at-set_same over.high q v (omega (arith, ordered.same_length)), at-set_same box.high q (int_min (at box.high q) v) here, way.high j h, to)
    | inr e ↦ omega (arith, ints, clamps, at-set_other over.high q j v e, at-set_other box.high q j (int_min (at box.high q) v) e, way.high j h)
  ];
  from_low = way.from_low;
  to_high = λ j h. elim (same_or_other j q) [
    | inl e ↦
        let p : j ≡ q = e in
        let here : q < length box.high = omega (arith, way.highs, p) in
        omega (arith, ints, clamps, ap (at box.high) p, ap (at root.high) p, ap (at (set box.high q (int_min (at box.high q) v))) p, at-set_same box.high q (int_min (at box.high q) v) here, way.to_high j h)
    | inr e ↦ omega (arith, ints, clamps, at-set_other box.high q j (int_min (at box.high q) v) e, way.to_high j h)
  ];
}
up_by Low root over box whole q v ordered inside from to way = record {
  lows = omega (arith, way.lows, length-set box.low q (int_max (at box.low q) v));
  highs = way.highs;
  low = λ j h. elim (same_or_other j q) [
    | inl e ↦
        let p : j ≡ q = e in
        let here : q < length box.low = omega (arith, way.lows, p) in
        omega (arith, ints, clamps, ap (at box.low) p, ap (at over.low) p, ap (at (set over.low q v)) p, ap (at (set box.low q (int_max (at box.low q) v))) p, at-set_same over.low q v inside, at-set_same box.low q (int_max (at box.low q) v) here, way.low j h, from)
    | inr e ↦ omega (arith, ints, clamps, at-set_other over.low q j v e, at-set_other box.low q j (int_max (at box.low q) v) e, way.low j h)
  ];
  high = way.high;
  from_low = λ j h. elim (same_or_other j q) [
    | inl e ↦
        let p : j ≡ q = e in
        let here : q < length box.low = omega (arith, way.lows, p) in
        omega (arith, ints, clamps, ap (at box.low) p, ap (at root.low) p, ap (at (set box.low q (int_max (at box.low q) v))) p, at-set_same box.low q (int_max (at box.low q) v) here, way.from_low j h)
    | inr e ↦ omega (arith, ints, clamps, at-set_other box.low q j (int_max (at box.low q) v) e, way.from_low j h)
  ];
  to_high = way.to_high;
}

pub on_way_up : (root over box whole : Range) (k : Link) → IsOrdered over → IsInward over k → IsOnWay root (changed over k) box whole → IsOnWay root over (narrowed box k) whole
on_way_up root over box whole k ordered inward way = up_by k.end root over box whole k.quantity k.value ordered inward.quantity inward.from_low inward.to_high way

-- the end that a link says leaves some value to the box at hand
leaves_by : (e : End) (root over box whole : Range) (q : ℕ) (v : ℤ) → IsOrdered over → IsOrdered whole → q < length over.low → q < length whole.low → IsOnWay root (with_end e over q v) box whole → LeavesSome e box q v
leaves_by High root over box whole q v ordered inside h k way =
    omega (arith, ints, clamps, at-set_same over.high q v (omega (arith, ordered.same_length)), way.low q k, way.high q (omega (arith, inside.same_length)), inside.rising q k)
leaves_by Low root over box whole q v ordered inside h k way =
    omega (arith, ints, clamps, at-set_same over.low q v h, way.low q k, way.high q (omega (arith, inside.same_length)), inside.rising q k)

pub leaves_some : (root over box whole : Range) (k : Link) → IsOrdered over → IsOrdered whole → IsInward over k → k.quantity < length whole.low → IsOnWay root (changed over k) box whole → LeavesSome k.end box k.quantity k.value
leaves_some root over box whole k ordered inside inward h way = leaves_by k.end root over box whole k.quantity k.value ordered inside inward.quantity h way

-- at the root the ends at hand are those of the box
pub on_way_last : (root box whole : Range) → IsOnWay root root box whole → box ≡ whole
on_way_last root box whole way =
    let lows : box.low ≡ whole.low = ext_get_or (pos 0) box.low whole.low way.lows (λ j h. low_is j (omega (arith, way.lows))) in
    let highs : box.high ≡ whole.high = ext_get_or (pos 0) box.high whole.high way.highs (λ j h. high_is j (omega (arith, way.highs))) in
    ap (λ l. record { low = l; high = box.high }) lows ∙ ap (λ h. record { low = whole.low; high = h }) highs
  where
    low_is : (j : ℕ) → j < length whole.low → at box.low j ≡ at whole.low j
    low_is j h = omega (arith, ints, clamps, way.low j h, way.from_low j h)

    high_is : (j : ℕ) → j < length whole.high → at box.high j ≡ at whole.high j
    high_is j h = omega (arith, ints, clamps, way.high j h, way.to_high j h)

-- ---- one end alone
-- a link that changes another end or another quantity leaves this one
pub end_kept : (e : End) (box : Range) (k : Link) (q : ℕ) → IsOrdered box → IsInward box k → (k.quantity ≡ q → k.end ≡ e → ⊥) → at (side e (changed box k)) q ≡ at (side e box) q
end_kept e box k q ordered inward other = kept e k.end box k.quantity q k.value other
  where
    kept : (e d : End) (box : Range) (p q : ℕ) (v : ℤ) → (p ≡ q → d ≡ e → ⊥) → at (side e (with_end d box p v)) q ≡ at (side e box) q
    kept High High box p q v other = at-set_other box.high p q v (λ h. other (sym h) refl)
    kept High Low box p q v other = refl
    kept Low High box p q v other = refl
    kept Low Low box p q v other = at-set_other box.low p q v (λ h. other (sym h) refl)

-- a link that changes this end gives it
pub end_given : (e : End) (box : Range) (k : Link) (q : ℕ) → IsOrdered box → IsInward box k → k.quantity ≡ q → k.end ≡ e → at (side e (changed box k)) q ≡ k.value
end_given e box k q ordered inward here this =
    ap (λ d. at (side d (changed box k)) q) (sym this) ∙ ap (at (side k.end (changed box k))) (sym here) ∙ given k.end box k.quantity k.value ordered inward.quantity
  where
    given : (e : End) (box : Range) (p : ℕ) (v : ℤ) → IsOrdered box → p < length box.low → at (side e (with_end e box p v)) p ≡ v
    given High box p v ordered h = at-set_same box.high p v (omega (arith, ordered.same_length))
    given Low box p v ordered h = at-set_same box.low p v h
