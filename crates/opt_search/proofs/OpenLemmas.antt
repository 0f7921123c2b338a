-- Open leaves in an ordered set: which are there after one is added or taken away, or those from a bound on are dropped.
use Rattle.std.proofs.Common.{◌≡◌, ◌⊎◌, ◌↔◌, inl, inr, ℕ, Bool, true, false, cond, List, ℤ, int_lt, refl, ap, sym, ◌∙◌, subst, arith}
use Rattle.std.specs.Prelude.{Contains, IsTrue, filter}
use Rattle.std.specs.Ordering.{ordering_then, int_cmp, nat_cmp, is_eq, eq_by_cmp}
use Rattle.std.specs.declared.cmp.Ordering.{Ordering}
use Rattle.std.specs.declared.cmp.Ordering.TheVariants.{Less, Equal, Greater}
use Rattle.std.specs.Cmp.{IsTotalOrder, then_total, on_total, int_cmp_total, nat_cmp_total}
use Rattle.std.specs.BTreeMap.{is_at}
use Rattle.std.specs.BTreeSet.{BTreeSet, contains, Updates}
use Rattle.std.proofs.lemmas.Map.Lookups.{CmpEqualImpliesEq, exact_pairs, exact_signed, exact_unsigned}
use Rattle.std.proofs.lemmas.Map.Views.{btree_set_contains_iff, tells_apart, Contains-from_any, list_any-from_Contains, any-filter_same}
use Rattle.std.proofs.lemmas.List.Elements.{All-contains, All-contains_itself, All-filter, filter_passes}
use Rattle.std.proofs.lemmas.Cmp.{eq_by_cmp_equiv}
use Rattle.std.proofs.lemmas.Int.{ints}
use Rattle.opt_search.specs.Open.{Adds, Removes, KeepsBelow}

-- leaves are ordered by bound, then by number
abbrev pub leaf_cmp : ℤ × ℕ → ℤ × ℕ → Ordering
leaf_cmp x y = ordering_then (int_cmp x.0 y.0) (nat_cmp x.1 y.1)

pub leaf_total : IsTotalOrder leaf_cmp
leaf_total = then_total (on_total (λ (k : ℤ × ℕ). k.0) int_cmp_total) (on_total (λ (k : ℤ × ℕ). k.1) nat_cmp_total)

pub leaf_exact : CmpEqualImpliesEq leaf_cmp
leaf_exact = exact_pairs int_cmp nat_cmp exact_signed exact_unsigned

pub contains_iff : (s : BTreeSet (ℤ × ℕ)) (k : ℤ × ℕ) → IsTrue (contains leaf_cmp s k) ↔ Contains s.keys k
contains_iff s k = btree_set_contains_iff leaf_total leaf_exact s k

equal_from : (r : Ordering) → is_eq r ≡ true → r ≡ Equal
equal_from Equal h = refl
equal_from Less h = cc
equal_from Greater h = cc

same_leaf : (k q : ℤ × ℕ) → is_at (leaf_cmp k) q ≡ true → k ≡ q
same_leaf k q h = leaf_exact k q (equal_from (leaf_cmp k q) h)

itself : (k : ℤ × ℕ) → is_at (leaf_cmp k) k ≡ true
itself k = grind (arith, ints)

here_or_there : (b c : Bool) → cond b true c ≡ true → (b ≡ true) ⊎ (c ≡ true)
here_or_there true c h = inl refl
here_or_there false c h = inr h

from_here : (b c : Bool) → (b ≡ true) ⊎ (c ≡ true) → cond b true c ≡ true
from_here true c h = refl
from_here false c (inl h) = cc
from_here false c (inr h) = h

there_not_here : (b c : Bool) → cond b false c ≡ true → (b ≡ false) × (c ≡ true)
there_not_here true c h = cc
there_not_here false c h = (refl, h)

from_there : (b c : Bool) → (b ≡ false) × (c ≡ true) → cond b false c ≡ true
from_there true c h = cc
from_there false c h = h.1

apart_leaf : (k q : ℤ × ℕ) → (k ≡ q → ⊥) → is_at (leaf_cmp k) q ≡ false
apart_leaf k q h = elim (is_at (leaf_cmp k) q) as (λ (b : Bool). is_at (leaf_cmp k) q ≡ b → b ≡ false) [ true ↦ λ e. absurd (h (same_leaf k q e)) | false ↦ λ e. refl ] refl

pair_is : (b b' : ℤ) (i i' : ℕ) → b ≡ b' → i ≡ i' → ◌≡◌ {A = ℤ × ℕ} (b, i) (b', i')
pair_is b b' i i' e f = cc

not_both : {b : Bool} → b ≡ false → b ≡ true → ⊥
not_both f t = cc

-- a leaf that is added is there, and no other is new
pub added : (s n : BTreeSet (ℤ × ℕ)) (bound : ℤ) (leaf : ℕ) → Updates leaf_cmp s n (bound, leaf) true → Adds bound leaf s.keys n.keys
added s n bound leaf updates b i = (
  λ h.
      elim (here_or_there (is_at (leaf_cmp (bound, leaf)) (b, i)) (contains leaf_cmp s (b, i)) (sym (updates.0 (b, i)) ∙ (contains_iff n (b, i)).1 h)) [
        | inl e ↦ let same : ◌≡◌ {A = ℤ × ℕ} (bound, leaf) (b, i) = same_leaf (bound, leaf) (b, i) e in inl (sym (ap (λ (k : ℤ × ℕ). k.0) same), sym (ap (λ (k : ℤ × ℕ). k.1) same))
        | inr e ↦ inr ((contains_iff s (b, i)).0 e)
      ],
  λ h.
      (contains_iff n (b, i)).0 (updates.0 (b, i) ∙ from_here (is_at (leaf_cmp (bound, leaf)) (b, i)) (contains leaf_cmp s (b, i)) (
      elim h [
        | inl e ↦ inl (subst (λ (k : ℤ × ℕ). is_at (leaf_cmp (bound, leaf)) k ≡ true) (pair_is bound b leaf i (sym e.0) (sym e.1)) (itself (bound, leaf)))
        | inr e ↦ inr ((contains_iff s (b, i)).1 e)
      ])),
)

-- a leaf that is taken away is gone, and no other
pub removed : (s n : BTreeSet (ℤ × ℕ)) (bound : ℤ) (leaf : ℕ) → Updates leaf_cmp s n (bound, leaf) false → Removes bound leaf s.keys n.keys
removed s n bound leaf updates b i = (
  λ h.
      let parts : (is_at (leaf_cmp (bound, leaf)) (b, i) ≡ false) × (contains leaf_cmp s (b, i) ≡ true) =
      there_not_here (is_at (leaf_cmp (bound, leaf)) (b, i)) (contains leaf_cmp s (b, i)) (sym (updates.0 (b, i)) ∙ (contains_iff n (b, i)).1 h)
      in
      ((contains_iff s (b, i)).0 parts.1, λ same. not_both parts.0 (subst (λ (k : ℤ × ℕ). is_at (leaf_cmp (bound, leaf)) k ≡ true) (pair_is bound b leaf i (sym same.0) (sym same.1)) (itself (bound, leaf)))),
  λ h.
      (contains_iff n (b, i)).0 (updates.0 (b, i) ∙ from_there (is_at (leaf_cmp (bound, leaf)) (b, i)) (contains leaf_cmp s (b, i))
      (apart_leaf (bound, leaf) (b, i) (λ same. h.1 (sym (ap (λ (k : ℤ × ℕ). k.0) same), sym (ap (λ (k : ℤ × ℕ). k.1) same))), (contains_iff s (b, i)).1 h.0)),
)

-- what stays of a list by a test was there and passes it
kept_of : (test : ℤ × ℕ → Bool) (xs : List (ℤ × ℕ)) (q : ℤ × ℕ) → Contains (filter test xs) q → Contains xs q × (test q ≡ true)
kept_of test xs q h = (
  All-contains (Contains xs) (filter test xs) q (All-filter test (Contains xs) xs (All-contains_itself xs)) h,
  All-contains (λ (k : ℤ × ℕ). test k ≡ true) (filter test xs) q (filter_passes test xs) h,
)

same_test : (test : ℤ × ℕ → Bool) (q : ℤ × ℕ) → test q ≡ true → (k : ℤ × ℕ) → eq_by_cmp leaf_cmp q k ≡ true → test k ≡ true
same_test test q t k e = subst (λ (j : ℤ × ℕ). test j ≡ true) (tells_apart leaf_exact q k e) t

-- what was there and passes the test stays
stays : (test : ℤ × ℕ → Bool) (xs : List (ℤ × ℕ)) (q : ℤ × ℕ) → Contains xs q → test q ≡ true → Contains (filter test xs) q
stays test xs q h t =
    Contains-from_any (tells_apart leaf_exact) q (filter test xs)
    (any-filter_same (eq_by_cmp leaf_cmp q) test true (same_test test q t) xs ∙ list_any-from_Contains (eq_by_cmp_equiv leaf_total) q xs h)

-- the leaves whose bound is lower stay
pub kept_below : (bound : ℤ) (xs ys : List (ℤ × ℕ)) → ys ≡ filter (λ e. int_lt e.0 bound) xs → KeepsBelow bound xs ys
kept_below bound xs ys e b i = (
  λ h.
      let parts : Contains xs (b, i) × (int_lt b bound ≡ true) = kept_of (λ e. int_lt e.0 bound) xs (b, i) (subst (λ (zs : List (ℤ × ℕ)). Contains zs (b, i)) e h) in
      (parts.0, grind (arith, ints)),
  λ h. subst (λ (zs : List (ℤ × ℕ)). Contains zs (b, i)) (sym e) (stays (λ e. int_lt e.0 bound) xs (b, i) h.0 (grind (arith, ints))),
)
