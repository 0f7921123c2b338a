-- Sums over the entries that a turn, an elimination and a division make.
use Rattle.std.proofs.Common.{◌≡◌, inl, inr, ℕ, ◌<◌, true, false, List, [], ◌∷◌, ℤ, pos, neg_ℤ, ◌+ℤ◌, ◌-ℤ◌, ◌*ℤ◌, unsigned_abs, nat_lt, refl, ap, arith}
use Rattle.std.proofs.lemmas.Int.{ints}
use Rattle.std.proofs.lemmas.Bool.{lt-ltb, le-ltb, eq-eqb, ne_eqb, cases_order, cases_eq}
use Rattle.opt_sums.specs.Entries.{coef, weighted_sum}
use Rattle.opt_sums.proofs.Ring.{mul_add, add_mul, neg_mul, mul_assoc}
use Rattle.opt_frac.specs.Equations.{Equation}
use Rattle.opt_frac.specs.Elimination.{without, multiple, unless_zero, more, merged_sum, whole, negated_if}

-- ---- one entry added
pub more_before : (a e : ℕ × ℤ) (es : List (ℕ × ℤ)) → a.0 < e.0 → more a (e ∷ es) ≡ a ∷ e ∷ es
more_before a e es h = rw (lt-ltb a.0 e.0 h) refl

pub more_after : (a e : ℕ × ℤ) (es : List (ℕ × ℤ)) → e.0 < a.0 → more a (e ∷ es) ≡ e ∷ more a es
more_after a e es h =
    let not_before : nat_lt a.0 e.0 ≡ false = le-ltb a.0 e.0 (omega arith) in
    rw (not_before, lt-ltb e.0 a.0 h) refl

pub more_same : (a e : ℕ × ℤ) (es : List (ℕ × ℤ)) → a.0 ≡ e.0 → more a (e ∷ es) ≡ unless_zero (e.0, a.1 +ℤ e.1) es
more_same a e es h =
    let not_before : nat_lt a.0 e.0 ≡ false = le-ltb a.0 e.0 (omega arith) in
    let not_after : nat_lt e.0 a.0 ≡ false = le-ltb e.0 a.0 (omega arith) in
    rw (not_before, not_after) refl

size_zero : (z : ℤ) → unsigned_abs z ≡ 0 → z ≡ pos 0
size_zero z h = omega (arith, ints)

pub weighted_sum-unless_zero : (e : ℕ × ℤ) (es : List (ℕ × ℤ)) (f : ℕ → ℤ) → weighted_sum (unless_zero e es) f ≡ (e.1 *ℤ f e.0) +ℤ weighted_sum es f
weighted_sum-unless_zero e es f =
    elim (cases_eq (unsigned_abs e.1) 0) [
      | inl h ↦
          let z : e.1 ≡ pos 0 = size_zero e.1 h in
          rw (eq-eqb (unsigned_abs e.1) 0 h) (omega (arith, ints, ap (λ n. n *ℤ f e.0) z))
      | inr h ↦ rw (ne_eqb (unsigned_abs e.1) 0 h) refl
    ]

pub weighted_sum-more : (a : ℕ × ℤ) (es : List (ℕ × ℤ)) (f : ℕ → ℤ) → weighted_sum (more a es) f ≡ (a.1 *ℤ f a.0) +ℤ weighted_sum es f
weighted_sum-more a [] f = refl
weighted_sum-more a (e ∷ es) f =
    elim (cases_order a.0 e.0) [
      | inl same ↦
          let s : a.0 ≡ e.0 = same in
          rw (more_same a e es s) (omega (arith, ints, weighted_sum-unless_zero (e.0, a.1 +ℤ e.1) es f, add_mul a.1 e.1 (f e.0), ap (λ k. a.1 *ℤ f k) s))
      | inr apart ↦
          elim apart [
            | inl before ↦ rw (more_before a e es before) refl
            | inr after ↦ rw (more_after a e es after) (omega (arith, ints, weighted_sum-more a es f))
          ]
    ]

-- ---- lists added, scaled, negated and shortened
pub weighted_sum-merged_sum : (es ds : List (ℕ × ℤ)) (f : ℕ → ℤ) → weighted_sum (merged_sum es ds) f ≡ weighted_sum es f +ℤ weighted_sum ds f
weighted_sum-merged_sum [] ds f = omega (arith, ints)
weighted_sum-merged_sum (e ∷ es) ds f = omega (arith, ints, weighted_sum-more e (merged_sum es ds) f, weighted_sum-merged_sum es ds f)

pub weighted_sum-multiple : (g : ℤ) (es : List (ℕ × ℤ)) (f : ℕ → ℤ) → weighted_sum (multiple g es) f ≡ g *ℤ weighted_sum es f
weighted_sum-multiple g [] f = omega (arith, ints)
weighted_sum-multiple g (e ∷ es) f =
    omega (arith, ints, weighted_sum-multiple g es f, mul_assoc g e.1 (f e.0), mul_add g (e.1 *ℤ f e.0) (weighted_sum es f))

pub weighted_sum-negated : (es : List (ℕ × ℤ)) (f : ℕ → ℤ) → weighted_sum (negated_if true es) f ≡ neg_ℤ (weighted_sum es f)
weighted_sum-negated [] f = refl
weighted_sum-negated (e ∷ es) f = omega (arith, ints, weighted_sum-negated es f, neg_mul e.1 (f e.0))

pub weighted_sum-without : (k : ℕ) (es : List (ℕ × ℤ)) (f : ℕ → ℤ) → weighted_sum (without k es) f +ℤ (coef es k *ℤ f k) ≡ weighted_sum es f
weighted_sum-without k [] f = omega (arith, ints)
weighted_sum-without k (e ∷ es) f =
    elim (cases_eq e.0 k) [
      | inl same ↦
          let s : e.0 ≡ k = same in
          rw (eq-eqb e.0 k s) (omega (arith, ints, weighted_sum-without k es f, add_mul e.1 (coef es k) (f k), ap (λ j. e.1 *ℤ f j) s))
      | inr apart ↦
          rw (ne_eqb e.0 k apart) (omega (arith, ints, weighted_sum-without k es f, add_mul (pos 0) (coef es k) (f k)))
    ]

-- the sum over the equation as one sum that is 0
pub weighted_sum-whole : (e : Equation) (f : ℕ → ℤ) → weighted_sum (whole e) f ≡ weighted_sum e.terms f -ℤ (e.lead *ℤ f e.basic)
weighted_sum-whole e f = omega (arith, ints, weighted_sum-more (e.basic, neg_ℤ e.lead) e.terms f, neg_mul e.lead (f e.basic))
