-- Which leaves a best point leaves open.
use Rattle.std.proofs.Common.{◌≡◌, inl, inr, ℕ, Bool, true, false, List, [], ℤ, ◌-ℤ◌, ◌≤ℤ◌, ◌<ℤ◌, int_le, arith, subst, ap, sym}
use Rattle.std.specs.Prelude.{Contains}
use Rattle.std.specs.Int.{int_max}
use Rattle.std.proofs.lemmas.Int.{ints, clamps}
use Rattle.opt_bound.specs.declared.leaf.Leaf.{Leaf}
use Rattle.opt_bound.specs.declared.leaf.Leaf.TheVariants.{AtLeast}
use Rattle.opt_tree.specs.Shown.{is_closed}
use Rattle.opt_search.specs.declared.state.State.{State}
use Rattle.opt_search.specs.Open.{Adds, KeepsBelow}
use Rattle.opt_search.specs.State.{known_in, KeepsUnreached, AddsIfOpen}

under : (r b v : ℤ) → r <ℤ v → b <ℤ v → int_le v (int_max r b) ≡ false
under r b v h k = grind (arith, ints, clamps)

above : (r b v : ℤ) → int_le v (int_max r b) ≡ false → b <ℤ v
above r b v h = grind (arith, ints, clamps)

never : (r b v : ℤ) → v ≤ℤ r → int_le v (int_max r b) ≡ false → ⊥
never r b v h k = grind (arith, ints, clamps)

-- where the root line reaches the best value, no leaf is open
pub unreached_none : (gap root_bound best : ℤ) (old new : List (ℤ × ℕ)) → new ≡ [] → (best -ℤ gap) ≤ℤ root_bound → KeepsUnreached gap root_bound best old new
unreached_none gap root_bound best old new e reached b i = (
  λ h.
      let there : Contains [] (b, i) = subst (λ (xs : List (ℤ × ℕ)). Contains xs (b, i)) e h in
      absurd (omega (arith, there.1)),
  λ h. absurd (never root_bound b (best -ℤ gap) reached h.1),
)

-- where it does not, those below that stay open
pub unreached_some : (gap root_bound best : ℤ) (old new : List (ℤ × ℕ)) → root_bound <ℤ (best -ℤ gap) → KeepsBelow (best -ℤ gap) old new → KeepsUnreached gap root_bound best old new
unreached_some gap root_bound best old new unreached kept b i = (
  λ h.
      let parts : Contains old (b, i) × (b <ℤ (best -ℤ gap)) = (kept b i).0 h in
      (parts.0, under root_bound b (best -ℤ gap) unreached parts.1),
  λ h. (kept b i).1 (h.0, above root_bound b (best -ℤ gap) h.1),
)

pub not_both : {b : Bool} → b ≡ false → b ≡ true → ⊥
not_both f t = cc

at_least_same : {a b : ℤ} → AtLeast a ≡ AtLeast b → b ≡ a
at_least_same e = cc

-- a settled leaf that is closed, or empty, adds no open one; another adds just itself
pub adds_none : (gap : ℤ) (old : State) (node : ℕ) (leaf : Leaf) → ((b : ℤ) → leaf ≡ AtLeast b → is_closed (known_in gap old) (AtLeast b) ≡ true) → AddsIfOpen gap old node leaf old.open_leaves
adds_none gap old node leaf closed b i = (
  λ h. inl h,
  λ h. elim h [ inl e ↦ e | inr e ↦ absurd (not_both e.2 (closed b e.1)) ],
)

pub adds_one : (gap : ℤ) (old : State) (node : ℕ) (bound : ℤ) (new : List (ℤ × ℕ)) → is_closed (known_in gap old) (AtLeast bound) ≡ false → Adds bound node old.open_leaves new → AddsIfOpen gap old node (AtLeast bound) new
adds_one gap old node bound new unclosed adds b i = (
  λ h.
      elim ((adds b i).0 h) [
        | inl e ↦ inr (e.1, ap AtLeast (sym e.0), subst (λ (v : ℤ). is_closed (known_in gap old) (AtLeast v) ≡ false) (sym e.0) unclosed)
        | inr e ↦ inl e
      ],
  λ h. (adds b i).1 (elim h [ inl e ↦ inr e | inr e ↦ inl (at_least_same e.1, e.0) ]),
)

pub same_bound : {leaf : Leaf} {a b : ℤ} → leaf ≡ AtLeast a → leaf ≡ AtLeast b → a ≡ b
same_bound e f = cc
