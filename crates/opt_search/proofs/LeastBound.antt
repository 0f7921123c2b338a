-- The least lower bound of the leaves below a number, which rises one by one.
use Rattle.std.proofs.Common.{◌≡◌, ◌⊎◌, inl, inr, ℕ, ◌+◌, ◌<◌, ◌≤◌, length, Option, Some, None, ℤ, ◌≤ℤ◌, ◌<ℤ◌, subst, ap, sym, ◌∙◌, arith}
use Rattle.std.specs.Int.{int_min}
use Rattle.std.proofs.lemmas.Int.{ints, clamps}
use Rattle.opt_bound.specs.declared.leaf.Leaf.{Leaf}
use Rattle.opt_bound.specs.declared.leaf.Leaf.TheVariants.{Empty, AtLeast}
use Rattle.opt_tree.specs.Nodes.{IsLeaf}
use Rattle.opt_search.specs.declared.state.State.{State}
use Rattle.opt_search.specs.State.{shown_at, IsSettledLeaf, IsLeastShown, least_after}

-- the least lower bound of the settled leaves below n that are not empty, where there is one
abbrev pub IsLeastTo : State → ℕ → Option ℤ → Type 0
IsLeastTo st n None = (i : ℕ) → i < n → IsSettledLeaf st i → shown_at st.shown.items i ≡ Empty
IsLeastTo st n (Some least) =
    ((i : ℕ) × (i < n) × IsSettledLeaf st i × (shown_at st.shown.items i ≡ AtLeast least))
    × ((i : ℕ) (bound : ℤ) → i < n → IsSettledLeaf st i → shown_at st.shown.items i ≡ AtLeast bound → least ≤ℤ bound)

pub least_start : (st : State) → IsLeastTo st 0 None
least_start st = λ i h. absurd (omega arith)

below_or_same : (k i : ℕ) → k < i + 1 → (k < i) ⊎ (k ≡ i)
below_or_same k i h = grind arith

apart : (b : ℤ) (l : Leaf) → l ≡ AtLeast b → l ≡ Empty → ⊥
apart b Empty h e = cc
apart b (AtLeast a) h e = cc

bound_is : (l : Leaf) (a b : ℤ) → l ≡ AtLeast a → l ≡ AtLeast b → a ≡ b
bound_is l a b h k = let both : AtLeast a ≡ AtLeast b = sym h ∙ k in cc

order : (a b : ℤ) → (a ≤ℤ b) ⊎ (b <ℤ a)
order a b = grind (arith, ints)

with_leaf : (st : State) (i : ℕ) (l : Leaf) (least : Option ℤ) → shown_at st.shown.items i ≡ l → IsSettledLeaf st i → IsLeastTo st i least → IsLeastTo st (i + 1) (least_after least l)
with_leaf st i Empty None e settled is = λ k h leaf. elim (below_or_same k i h) [
  | inl p ↦ is k p leaf
  | inr p ↦ ap (shown_at st.shown.items) p ∙ e
]
with_leaf st i Empty (Some m) e settled is = (
  (is.0.0, omega (arith, is.0.1), is.0.2, is.0.3),
  λ k bound h leaf shown. elim (below_or_same k i h) [
    | inl p ↦ is.1 k bound p leaf shown
    | inr p ↦ absurd (apart bound (shown_at st.shown.items k) shown (ap (shown_at st.shown.items) p ∙ e))
  ],
)
with_leaf st i (AtLeast b) None e settled is = (
  (i, omega arith, settled, e),
  λ k bound h leaf shown. elim (below_or_same k i h) [
    | inl p ↦ absurd (apart bound (shown_at st.shown.items k) shown (is k p leaf))
    | inr p ↦ omega (arith, ints, bound_is (shown_at st.shown.items k) b bound (ap (shown_at st.shown.items) p ∙ e) shown)
  ],
)
with_leaf st i (AtLeast b) (Some m) e settled is = (
  elim (order m b) [
    | inl h ↦ let low : m ≡ int_min m b = omega (arith, ints, clamps) in (is.0.0, omega (arith, is.0.1), is.0.2, is.0.3 ∙ ap AtLeast low)
    | inr h ↦ let low : b ≡ int_min m b = omega (arith, ints, clamps) in (i, omega arith, settled, e ∙ ap AtLeast low)
  ],
  λ k bound h leaf shown. elim (below_or_same k i h) [
    | inl p ↦ let below : m ≤ℤ bound = is.1 k bound p leaf shown in omega (arith, ints, clamps)
    | inr p ↦
        let same : b ≡ bound = bound_is (shown_at st.shown.items k) b bound (ap (shown_at st.shown.items) p ∙ e) shown in
        omega (arith, ints, clamps)
  ],
)

-- one leaf more
pub least_leaf : (st : State) (i : ℕ) (leaf : Leaf) (least new : Option ℤ) → leaf ≡ shown_at st.shown.items i → new ≡ least_after least leaf → IsLeaf st.tree i → i < length st.shown.items → IsLeastTo st i least → IsLeastTo st (i + 1) new
least_leaf st i leaf least new e f is below h =
    subst (IsLeastTo st (i + 1)) (sym f) (with_leaf st i leaf least (sym e) (record { leaf = is; settled = below }) h)

-- one split more
pub least_other : (st : State) (i : ℕ) (least : Option ℤ) → ¬ IsLeaf st.tree i → IsLeastTo st i least → IsLeastTo st (i + 1) least
least_other st i None other is = λ k h leaf. elim (below_or_same k i h) [
  | inl p ↦ is k p leaf
  | inr p ↦ absurd (other (subst (IsLeaf st.tree) p leaf.leaf))
]
least_other st i (Some m) other is = (
  (is.0.0, omega (arith, is.0.1), is.0.2, is.0.3),
  λ k bound h leaf shown. elim (below_or_same k i h) [
    | inl p ↦ is.1 k bound p leaf shown
    | inr p ↦ absurd (other (subst (IsLeaf st.tree) p leaf.leaf))
  ],
)

-- all of them
pub least_all : (st : State) (n : ℕ) (least : Option ℤ) → length st.tree.nodes ≤ n → IsLeastTo st n least → IsLeastShown st least
least_all st n None h is = λ i leaf. is i (omega (arith, leaf.leaf.in_tree)) leaf
least_all st n (Some m) h is = (
  (is.0.0, is.0.2, is.0.3),
  λ i bound leaf shown. is.1 i bound (omega (arith, leaf.leaf.in_tree)) leaf shown,
)
