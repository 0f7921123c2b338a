-- When two ranges, and two systems, are the same, as tests that compute, and that they decide sameness.
use Rattle.std.specs.Prelude.{◌≡◌, ◌&&◌, ◌==◌, Bool, true, false, ℕ, ℤ, List, refl}
use Rattle.std.specs.Bool.{Decides}
use Rattle.std.specs.Cmp.{IsPartialEquivalence, partial_equiv_from_equiv, decided}
use Rattle.std.specs.Cmp.Lexicographic.{pointwise}
use Rattle.std.specs.Ordering.{int_eq}
use Rattle.std.proofs.Common.{ap, ◌∙◌}
use Rattle.std.proofs.lemmas.Bool.Decides.{Decides-eqb, Decides-int_eq, Decides-and, Decides-like}
use Rattle.std.proofs.lemmas.Slice.Eq.{slice_eq-Decides}
use Rattle.opt_system.specs.declared.rows.RowKind.{RowKind}
use Rattle.opt_system.specs.declared.rows.RowKind.TheVariants.{Ge, Eq}
use Rattle.opt_system.specs.declared.rows.Row.{Row}
use Rattle.opt_system.specs.Ranges.{Range}
use Rattle.opt_system.specs.Systems.{System}

-- the same lows and the same highs
abbrev pub range_eq : Range → Range → Bool
range_eq a b = pointwise int_eq a.low b.low && pointwise int_eq a.high b.high

pub numbers_eq-Decides : (xs ys : List ℤ) → Decides (pointwise int_eq xs ys) (xs ≡ ys)
numbers_eq-Decides xs ys = slice_eq-Decides Decides-int_eq xs ys (pointwise int_eq xs ys) refl

same_range : (a b : Range) → a.low ≡ b.low → a.high ≡ b.high → a ≡ b
same_range a b e f =
    let low : List ℤ → Range = λ l. record { low = l; high = a.high } in
    let high : List ℤ → Range = λ h. record { low = b.low; high = h } in
    ap low e ∙ ap high f

pub range_eq-Decides : (a b : Range) → Decides (range_eq a b) (a ≡ b)
range_eq-Decides a b =
    Decides-like (range_eq a b) (λ (w : (a.low ≡ b.low) × (a.high ≡ b.high)). same_range a b w.0 w.1) (λ e. (ap (λ (r : Range). r.low) e, ap (λ (r : Range). r.high) e))
    (Decides-and (pointwise int_eq a.low b.low) (pointwise int_eq a.high b.high) (numbers_eq-Decides a.low b.low) (numbers_eq-Decides a.high b.high))

pub range_eq_laws : IsPartialEquivalence range_eq
range_eq_laws = partial_equiv_from_equiv (decided range_eq range_eq-Decides)

-- ---- rows and systems
abbrev pub entry_eq : ℕ × ℤ → ℕ × ℤ → Bool
entry_eq d e = d.0 == e.0 && int_eq d.1 e.1

abbrev pub entries_eq : List (ℕ × ℤ) → List (ℕ × ℤ) → Bool
entries_eq = pointwise entry_eq

abbrev pub kind_eq : RowKind → RowKind → Bool
kind_eq Ge Ge = true
kind_eq Ge Eq = false
kind_eq Eq Ge = false
kind_eq Eq Eq = true

-- the same kind, right-hand side and terms
abbrev pub row_eq : Row → Row → Bool
row_eq a b = kind_eq a.kind b.kind && int_eq a.right_hand_side b.right_hand_side && entries_eq a.terms b.terms

-- the same rows, root and costs
abbrev pub system_eq : System → System → Bool
system_eq a b = pointwise row_eq a.rows b.rows && range_eq a.root b.root && pointwise int_eq a.cost b.cost

same_entry : (d e : ℕ × ℤ) → d.0 ≡ e.0 → d.1 ≡ e.1 → d ≡ e
same_entry d e p q =
    let number : ℕ → ℕ × ℤ = λ n. (n, d.1) in
    let coefficient : ℤ → ℕ × ℤ = λ z. (e.0, z) in
    ap number p ∙ ap coefficient q

entry_eq-Decides : (d e : ℕ × ℤ) → Decides (entry_eq d e) (d ≡ e)
entry_eq-Decides d e =
    Decides-like (entry_eq d e) (λ (w : (d.0 ≡ e.0) × (d.1 ≡ e.1)). same_entry d e w.0 w.1) (λ p. (ap (λ (a : ℕ × ℤ). a.0) p, ap (λ (a : ℕ × ℤ). a.1) p))
    (Decides-and (d.0 == e.0) (int_eq d.1 e.1) (Decides-eqb d.0 e.0) (Decides-int_eq d.1 e.1))

entries_eq-Decides : (ds es : List (ℕ × ℤ)) → Decides (entries_eq ds es) (ds ≡ es)
entries_eq-Decides ds es = slice_eq-Decides entry_eq-Decides ds es (entries_eq ds es) refl

kind_eq-Decides : (a b : RowKind) → Decides (kind_eq a b) (a ≡ b)
kind_eq-Decides Ge Ge = (λ _. refl, λ _. refl)
kind_eq-Decides Ge Eq = (λ p. cc, λ p. cc)
kind_eq-Decides Eq Ge = (λ p. cc, λ p. cc)
kind_eq-Decides Eq Eq = (λ _. refl, λ _. refl)

same_row : (a b : Row) → a.kind ≡ b.kind → a.right_hand_side ≡ b.right_hand_side → a.terms ≡ b.terms → a ≡ b
same_row a b p q r =
    let kind : RowKind → Row = λ k. record { kind = k; right_hand_side = a.right_hand_side; terms = a.terms } in
    let side : ℤ → Row = λ z. record { kind = b.kind; right_hand_side = z; terms = a.terms } in
    let terms : List (ℕ × ℤ) → Row = λ t. record { kind = b.kind; right_hand_side = b.right_hand_side; terms = t } in
    ap kind p ∙ ap side q ∙ ap terms r

row_eq-Decides : (a b : Row) → Decides (row_eq a b) (a ≡ b)
row_eq-Decides a b =
    Decides-like (row_eq a b)
    (λ (w : ((a.kind ≡ b.kind) × (a.right_hand_side ≡ b.right_hand_side)) × (a.terms ≡ b.terms)). same_row a b w.0.0 w.0.1 w.1)
    (λ p. ((ap (λ (r : Row). r.kind) p, ap (λ (r : Row). r.right_hand_side) p), ap (λ (r : Row). r.terms) p))
    (Decides-and (kind_eq a.kind b.kind && int_eq a.right_hand_side b.right_hand_side) (entries_eq a.terms b.terms)
    (Decides-and (kind_eq a.kind b.kind) (int_eq a.right_hand_side b.right_hand_side) (kind_eq-Decides a.kind b.kind) (Decides-int_eq a.right_hand_side b.right_hand_side))
    (entries_eq-Decides a.terms b.terms))

same_system : (a b : System) → a.rows ≡ b.rows → a.root ≡ b.root → a.cost ≡ b.cost → a ≡ b
same_system a b p q r =
    let rows : List Row → System = λ l. record { rows = l; root = a.root; cost = a.cost } in
    let root : Range → System = λ l. record { rows = b.rows; root = l; cost = a.cost } in
    let cost : List ℤ → System = λ l. record { rows = b.rows; root = b.root; cost = l } in
    ap rows p ∙ ap root q ∙ ap cost r

pub system_eq-Decides : (a b : System) → Decides (system_eq a b) (a ≡ b)
system_eq-Decides a b =
    Decides-like (system_eq a b)
    (λ (w : ((a.rows ≡ b.rows) × (a.root ≡ b.root)) × (a.cost ≡ b.cost)). same_system a b w.0.0 w.0.1 w.1)
    (λ p. ((ap (λ (s : System). s.rows) p, ap (λ (s : System). s.root) p), ap (λ (s : System). s.cost) p))
    (Decides-and (pointwise row_eq a.rows b.rows && range_eq a.root b.root) (pointwise int_eq a.cost b.cost)
    (Decides-and (pointwise row_eq a.rows b.rows) (range_eq a.root b.root) (slice_eq-Decides row_eq-Decides a.rows b.rows (pointwise row_eq a.rows b.rows) refl) (range_eq-Decides a.root b.root))
    (numbers_eq-Decides a.cost b.cost))

pub entries_eq_laws : IsPartialEquivalence entries_eq
entries_eq_laws = partial_equiv_from_equiv (decided entries_eq entries_eq-Decides)

pub row_eq_laws : IsPartialEquivalence row_eq
row_eq_laws = partial_equiv_from_equiv (decided row_eq row_eq-Decides)

pub system_eq_laws : IsPartialEquivalence system_eq
system_eq_laws = partial_equiv_from_equiv (decided system_eq system_eq-Decides)
