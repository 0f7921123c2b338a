-- A leaf's multipliers on a box of one point close it, and what a settled box leaves.
use Rattle.std.proofs.Common.{◌≡◌, ◌≢◌, ◌↔◌, inl, inr, ℕ, ◌≤◌, Bool, true, false, List, [], ◌∷◌, length, length-append, Option, Some, None, ℤ, pos, ◌≤ℤ◌, refl, ap, sym, ◌∙◌, subst, arith}
use Rattle.std.specs.Prelude.{All, IsTrue, IfOk, Result}
use Rattle.std.proofs.lemmas.Result.{IfOk-weaker}
use Rattle.std.specs.Int.{int_max}
use Rattle.std.proofs.lemmas.Int.{ints, clamps}
use Rattle.std.proofs.lemmas.List.Elements.{All-nil}
use Rattle.opt_sums.specs.Sums.{at}
use Rattle.opt_system.specs.Ranges.{Range, IsWithin, LiesIn}
use Rattle.opt_system.specs.Rows.{Holds}
use Rattle.opt_system.specs.Systems.{System, IsLimited, IsFirstBroken, value}
use Rattle.opt_system.proofs.CutLemmas.{IsWithin-LiesIn}
use Rattle.opt_system.proofs.LimitLemmas.{value_from_zero}
use Rattle.opt_bound.specs.declared.leaf.Leaf.{Leaf}
use Rattle.opt_bound.specs.declared.leaf.Leaf.TheVariants.{Empty}
use Rattle.opt_bound.specs.Multipliers.{Multipliers, IsProper, IsFitting, IsAdmissible}
use Rattle.opt_bound.specs.Bound.{unit_multipliers, trivial_multipliers}
use Rattle.opt_bound.proofs.PointLaws.{IsAdmissible-unit, leaf_of-unit, leaf_of-trivial}
use Rattle.opt_tree.specs.Shown.{leaf_at, Known, is_closed, is_reached}
use Rattle.opt_tree.specs.Nodes.{Tree, IsLeaf, box_of, with_mult}
use Rattle.opt_tree.proofs.BoxLemmas.{box_of-IsBox}
use Rattle.opt_guide.specs.Relations.{OfMultipliers, OfCandidates}
use Rattle.opt_search.specs.declared.state.Best.{Best}
use Rattle.opt_search.specs.declared.state.State.{State}
use Rattle.opt_search.specs.Guided.{IsOnePoint, IsPointLine, IsLine, IsAtMost, WasWeighed, WeighsOne}
use Rattle.opt_search.specs.State.{best_value, known_in, IsSound, Falls, KeepsTree, Settles, SettlesBox, IsClosing}
use Rattle.opt_search.proofs.ClosingLemmas.{not_both}
use Rattle.opt_search.proofs.SettleSteps.{IsFit}

-- ---- boxes of one point
-- the point is a point of the box
point_within : (box : Range) → IsOnePoint box → IsWithin box box.low
point_within box one = record {
  same_length = refl;
  above = λ j h. omega (arith, ints);
  below = λ j h. omega (arith, ints, ap (λ (xs : List ℤ). at xs j) one);
}

reached_by : (best : Option ℤ) (gap rb v : ℤ) → pos 0 ≤ℤ gap → IsAtMost best v → is_reached best gap (int_max rb v) ≡ true
reached_by None gap rb v from h = absurd h
reached_by (Some b) gap rb v from h = grind (arith, ints, clamps)

-- a leaf that is not closed is not empty
pub not_empty : (known : Known) (leaf : Leaf) → is_closed known leaf ≡ false → leaf ≢ Empty
not_empty known leaf unclosed e = not_both unclosed (ap (λ (l : Leaf). is_closed known l) e)

-- a box of one point that was weighed
pub record IsWeighedPoint (s : System) (known : Known) (box : Range) : Type 0 where
  pub limited : IsLimited s
  pub inside : LiesIn s.root box
  pub one : IsOnePoint box
  pub gap_from_zero : pos 0 ≤ℤ known.gap
  pub weighed : WasWeighed s known.best (Some box.low)

quantities : (s : System) (known : Known) (box : Range) → IsWeighedPoint s known box → length box.low ≤ length s.cost
quantities s known box h = omega (arith, h.inside.same_length, h.limited.small.cost_each)

in_root : (s : System) (known : Known) (box : Range) → IsWeighedPoint s known box → IsWithin s.root box.low
in_root s known box h = IsWithin-LiesIn s.root box box.low h.inside (point_within box h.one)

closing_unit : (s : System) (known : Known) (box : Range) (m : Multipliers) (i : ℕ) → IsWeighedPoint s known box → leaf_at s box m ≢ Empty → IsFirstBroken s.rows box.low i → IsClosing s known box m (unit_multipliers s box.low i)
closing_unit s known box m i h some first = record {
  admissible = IsAdmissible-unit s box.low i first;
  same_or_point = inr (h.one, inl (i, first, refl));
  closed = λ one. ap (λ (l : Leaf). is_closed known l) (leaf_of-unit s box i h.one (quantities s known box h) first);
  empty = λ e. absurd (some e);
}

closing_value : (s : System) (known : Known) (box : Range) (m : Multipliers) → IsWeighedPoint s known box → leaf_at s box m ≢ Empty → All (λ row. Holds row box.low) s.rows → IsClosing s known box m trivial_multipliers
closing_value s known box m h some holds =
    let inside : IsWithin s.root box.low = in_root s known box h in
    let known_best : IsAtMost known.best (value s box.low) = h.weighed (record { in_range = inside; rows_hold = holds }) in
    record {
      admissible = All-nil (IsFitting s);
      same_or_point = inr (h.one, inr (holds, refl));
      closed = λ one.
          ap (λ (l : Leaf). is_closed known l) (leaf_of-trivial s box h.one (quantities s known box h) (value_from_zero s box.low h.limited inside))
          ∙ reached_by known.best known.gap known.root_bound (value s box.low) h.gap_from_zero known_best;
      empty = λ e. absurd (some e);
    }

pub closing_point : (s : System) (known : Known) (box : Range) (m line : Multipliers) → IsWeighedPoint s known box → leaf_at s box m ≢ Empty → IsPointLine s box.low line → IsClosing s known box m line
closing_point s known box m line h some point =
    elim point [
      | inl e ↦ subst (λ (k : Multipliers). IsClosing s known box m k) (sym e.2) (closing_unit s known box m e.0 h some e.1)
      | inr e ↦ subst (λ (k : Multipliers). IsClosing s known box m k) (sym e.1) (closing_value s known box m h some e.0)
    ]

-- the answer that judges the point closes the box
pub closing_result : {E : Type 0} (s : System) (known : Known) (box : Range) (m : Multipliers) (r : Result Multipliers E) → IsWeighedPoint s known box → leaf_at s box m ≢ Empty → IfOk r (IsPointLine s box.low) → IfOk r (IsClosing s known box m)
closing_result s known box m r h some point = IfOk-weaker r (IsPointLine s box.low) (IsClosing s known box m) (λ line p. closing_point s known box m line h some p) point

-- multipliers that close the box, or whose box has more points, stay
pub closing_same : (s : System) (known : Known) (box : Range) (m : Multipliers) → IsAdmissible s m → (IsOnePoint box → is_closed known (leaf_at s box m) ≡ true) → IsClosing s known box m m
closing_same s known box m admissible closed = record { admissible = admissible; same_or_point = inl refl; closed = closed; empty = λ e. e }

pub closing_several : (s : System) (known : Known) (box : Range) (m : Multipliers) (one_point : Bool) → IsAdmissible s m → (IsTrue one_point) ↔ IsOnePoint box → one_point ≡ false → IsClosing s known box m m
closing_several s known box m one_point admissible tells several = closing_same s known box m admissible (λ one. absurd (not_both several (tells.1 one)))

-- ---- trees that are kept
pub keeps_twice : (a b c : State) → KeepsTree a b → KeepsTree b c → KeepsTree a c
keeps_twice a b c first second = record {
  tree = second.tree ∙ first.tree;
  shown = second.shown ∙ first.shown;
  root = second.root ∙ first.root;
  root_bound = second.root_bound ∙ first.root_bound;
}

-- the box of a leaf lies in the root's
pub box_inside : (s : System) (gap : ℤ) (st : State) (i : ℕ) → IsSound s gap st → IsLeaf st.tree i → LiesIn s.root (box_of st.tree i)
box_inside s gap st i sound is =
    subst (λ (b : Range). LiesIn b (box_of st.tree i)) sound.same_root (box_of-IsBox st.tree i sound.tree is.in_tree).within

-- ---- a settled box
-- the next leaf, with this box, whose candidate and, on a box of one point, this point were weighed; line is in the place
-- of m, a line of the box
pub record IsSettling (weigh : OfMultipliers) (try : OfCandidates) (s : System) (gap : ℤ) (old mid : State) (node : ℕ) (box : Range) (m line : Multipliers) : Type 0 where
  pub kept : KeepsTree old mid
  pub falls : Falls (best_value old.best) (best_value mid.best)
  pub count : length old.shown.items ≡ node
  pub is_leaf : IsLeaf old.tree node
  pub own_box : box ≡ box_of old.tree node
  pub is_line : IsLine weigh s box m
  pub closing : IsClosing s (known_in gap mid) box m line
  pub root : leaf_at s s.root old.root ≡ Empty → leaf_at s box m ≡ Empty
  pub weighed : WeighsOne try s (best_value mid.best) box

pub fit_of : (weigh : OfMultipliers) (try : OfCandidates) (s : System) (gap : ℤ) (old mid : State) (node : ℕ) (box : Range) (m line : Multipliers) (leaf : Leaf) → IsSettling weigh try s gap old mid node box m line → IsProper line → leaf ≡ leaf_at s box line → IsFit s gap mid node line leaf
fit_of weigh try s gap old mid node box m line leaf h proper shows =
    let same_box : box ≡ box_of mid.tree node = h.own_box ∙ ap (λ (u : Tree). box_of u node) (sym h.kept.tree) in
    record {
      count = ap (λ (xs : List Leaf). length xs) h.kept.shown ∙ h.count;
      is_leaf = subst (λ (u : Tree). IsLeaf u node) (sym h.kept.tree) h.is_leaf;
      proper = proper;
      admissible = h.closing.admissible;
      shows = shows ∙ ap (λ (b : Range). leaf_at s b line) same_box;
      closed = λ one.
          ap (λ (l : Leaf). is_closed (known_in gap mid) l) shows ∙ h.closing.closed (subst (λ (b : Range). IsOnePoint b) (sym same_box) one);
      empty = λ e. shows ∙ h.closing.empty (h.root (ap (λ (k : Multipliers). leaf_at s s.root k) (sym h.kept.root) ∙ e));
    }

pub settles_box : (weigh : OfMultipliers) (try : OfCandidates) (s : System) (gap : ℤ) (old mid new : State) (node : ℕ) (box : Range) (m line : Multipliers) (leaf : Leaf) → IsSettling weigh try s gap old mid node box m line → Settles gap mid new node line leaf → SettlesBox weigh try s old new node box
settles_box weigh try s gap old mid new node box m line leaf h settles = record {
  line = line;
  tree = settles.tree ∙ ap (λ (u : Tree). with_mult u node line) h.kept.tree;
  is_line = elim h.closing.same_or_point [
    | inl e ↦ inl (subst (λ (k : Multipliers). IsLine weigh s box k) (sym e) h.is_line)
    | inr e ↦ inr e
  ];
  settled = omega (
    arith,
    ap (λ (xs : List Leaf). length xs) settles.shown,
    length-append mid.shown.items (leaf ∷ []),
    ap (λ (xs : List Leaf). length xs) h.kept.shown,
    h.count,
  );
  root = settles.root ∙ h.kept.root;
  root_bound = settles.root_bound ∙ h.kept.root_bound;
  weighed = subst (λ (b : Option Best). WeighsOne try s (best_value b) box) (sym settles.best) h.weighed;
  falls = subst (λ (b : Option Best). Falls (best_value old.best) (best_value b)) (sym settles.best) h.falls;
}
