-- The values of all variables over one denominator.
use Rattle.std.proofs.Common.{◌≡◌, ◌≢◌, ◌⊎◌, inl, inr, ℕ, zero, suc, ◌<◌, ◌==◌, if◌then◌else◌, List, [], ◌∷◌, length, ℤ, pos, ◌*ℤ◌, ◌≤ℤ◌, unsigned_abs, refl, ap, sym, ◌∙◌, arith}
use Rattle.std.specs.Int.{IsGcd}
use Rattle.std.proofs.lemmas.Int.{ints}
use Rattle.std.proofs.lemmas.Bool.{cases_eq, eq-eqb, ne_eqb}
use Rattle.opt_sums.specs.Sums.{at}
use Rattle.opt_sums.proofs.Ring.{mul_assoc}
use Rattle.opt_frac.specs.Divisors.{gcd}
use Rattle.opt_frac.specs.Equations.{Equation}
use Rattle.opt_frac.proofs.Divisions.{gcd-is, exact}
use Rattle.opt_frac.proofs.Steps.{mul_comm, mul_swap, product_positive}
use Rattle.opt_simplex.specs.Tableau.{equation_at}
use Rattle.opt_simplex.specs.Choice.{fraction, fraction_of}

-- whole numbers, which are scale times the values: of basic variables those over their leads, of the others those at
-- which they rest
pub record IsScaledPoint (rest : ℕ → ℤ) (es : List Equation) (zs : List ℤ) : Type 0 where
  pub scale : ℤ
  pub x : ℕ → ℤ
  pub scale_positive : pos 1 ≤ℤ scale
  pub basic : (i : ℕ) → i < length es → (equation_at es i).lead *ℤ x (equation_at es i).basic ≡ scale *ℤ at zs i
  pub other : (k : ℕ) → ((i : ℕ) → i < length es → (equation_at es i).basic ≢ k) → x k ≡ scale *ℤ rest k
  pub fractions : (k : ℕ) → x k *ℤ (fraction_of rest k es zs).1 ≡ scale *ℤ (fraction_of rest k es zs).0

-- a fraction in lowest terms, times a scale that holds its denominator
lowest_scaled : (s z num den w lead : ℤ) → w *ℤ num ≡ z → w *ℤ den ≡ lead → (s *ℤ z) *ℤ den ≡ (lead *ℤ s) *ℤ num
lowest_scaled s z num den w lead p q =
    let cross : z *ℤ den ≡ lead *ℤ num =
    ap (λ n. n *ℤ den) (sym p) ∙ mul_assoc w num den ∙ ap (λ n. w *ℤ n) (mul_comm num den) ∙ sym (mul_assoc w den num) ∙ ap (λ n. n *ℤ num) q in
    mul_assoc s z den ∙ ap (λ n. s *ℤ n) cross ∙ sym (mul_assoc s lead num) ∙ ap (λ n. n *ℤ num) (mul_comm s lead)

-- the value of one more basic variable, and the scale times its lead
abbrev x_with : Equation → ℤ → ℤ → (ℕ → ℤ) → ℕ → ℤ
x_with e z scale x k = if e.basic == k then scale *ℤ z else e.lead *ℤ x k

x_same : (e : Equation) (z scale : ℤ) (x : ℕ → ℤ) (k : ℕ) → e.basic ≡ k → x_with e z scale x k ≡ scale *ℤ z
x_same e z scale x k h = rw (eq-eqb e.basic k h) refl

x_other : (e : Equation) (z scale : ℤ) (x : ℕ → ℤ) (k : ℕ) → e.basic ≢ k → x_with e z scale x k ≡ e.lead *ℤ x k
x_other e z scale x k h = rw (ne_eqb e.basic k h) refl

pub scaled_point : (rest : ℕ → ℤ) (es : List Equation) (zs : List ℤ) → length zs ≡ length es
    → ((i : ℕ) → i < length es → pos 1 ≤ℤ (equation_at es i).lead)
    → ((i j : ℕ) → i < length es → j < length es → i ≢ j → (equation_at es i).basic ≢ (equation_at es j).basic)
    → IsScaledPoint rest es zs
scaled_point rest [] zs same leads distinct =
    record {
      scale = pos 1;
      x = rest;
      scale_positive = omega (arith, ints);
      basic = λ i h. absurd (omega arith);
      other = λ k h. omega (arith, ints);
      fractions = λ k. omega (arith, ints);
    }
scaled_point rest (e ∷ es) [] same leads distinct = absurd (omega arith)
scaled_point rest (e ∷ es) (z ∷ zs) same leads distinct =
    let more : IsScaledPoint rest es zs =
    scaled_point rest es zs (omega arith) (λ i h. leads (suc i) (omega arith))
    (λ i j i_in j_in apart. distinct (suc i) (suc j) (omega arith) (omega arith) (λ s. apart (omega arith))) in
    record {
      scale = e.lead *ℤ more.scale;
      x = x_with e z more.scale more.x;
      scale_positive = product_positive e.lead more.scale (leads 0 (omega arith)) more.scale_positive;
      basic = basic_at more;
      other = other_at more;
      fractions = fraction_at more;
    }
  where
    basic_at : (more : IsScaledPoint rest es zs) (i : ℕ) → i < length (e ∷ es)
        → (equation_at (e ∷ es) i).lead *ℤ x_with e z more.scale more.x (equation_at (e ∷ es) i).basic ≡ (e.lead *ℤ more.scale) *ℤ at (z ∷ zs) i
    basic_at more zero h = ap (λ n. e.lead *ℤ n) (x_same e z more.scale more.x e.basic refl) ∙ sym (mul_assoc e.lead more.scale z)
    basic_at more (suc i) h =
        ap (λ n. (equation_at es i).lead *ℤ n)
        (x_other e z more.scale more.x (equation_at es i).basic (distinct 0 (suc i) (omega arith) h (omega arith)))
        ∙ mul_swap (equation_at es i).lead e.lead (more.x (equation_at es i).basic)
        ∙ ap (λ n. e.lead *ℤ n) (more.basic i (omega arith))
        ∙ sym (mul_assoc e.lead more.scale (at zs i))

    other_at : (more : IsScaledPoint rest es zs) (k : ℕ) → ((i : ℕ) → i < length (e ∷ es) → (equation_at (e ∷ es) i).basic ≢ k)
        → x_with e z more.scale more.x k ≡ (e.lead *ℤ more.scale) *ℤ rest k
    other_at more k h =
        x_other e z more.scale more.x k (h 0 (omega arith)) ∙ ap (λ n. e.lead *ℤ n) (more.other k (λ i below. h (suc i) (omega arith)))
        ∙ sym (mul_assoc e.lead more.scale (rest k))

    fraction_at : (more : IsScaledPoint rest es zs) (k : ℕ)
        → x_with e z more.scale more.x k *ℤ (fraction_of rest k (e ∷ es) (z ∷ zs)).1
        ≡ (e.lead *ℤ more.scale) *ℤ (fraction_of rest k (e ∷ es) (z ∷ zs)).0
    fraction_at more k =
        elim (cases_eq e.basic k) [
          | inl here ↦
              let divides : IsGcd (unsigned_abs z) (unsigned_abs e.lead) (gcd (unsigned_abs z) (unsigned_abs e.lead)) =
              gcd-is (unsigned_abs z) (unsigned_abs e.lead) in
              rw (eq-eqb e.basic k here)
              (lowest_scaled more.scale z (fraction z e.lead).0 (fraction z e.lead).1 (pos (gcd (unsigned_abs z) (unsigned_abs e.lead))) e.lead
              (exact z (gcd (unsigned_abs z) (unsigned_abs e.lead)) divides.0) (exact e.lead (gcd (unsigned_abs z) (unsigned_abs e.lead)) divides.1))
          | inr apart ↦
              rw (ne_eqb e.basic k apart)
              (mul_assoc e.lead (more.x k) (fraction_of rest k es zs).1 ∙ ap (λ n. e.lead *ℤ n) (more.fractions k) ∙ sym (mul_assoc e.lead more.scale (fraction_of rest k es zs).0))
        ]

-- a variable is basic or it is not
pub find_basic : (es : List Equation) (k : ℕ)
    → ((i : ℕ) × (i < length es) × ((equation_at es i).basic ≡ k)) ⊎ ((i : ℕ) → i < length es → (equation_at es i).basic ≢ k)
find_basic [] k = inr (λ i h. absurd (omega arith))
find_basic (e ∷ es) k =
    elim (cases_eq e.basic k) [
      | inl here ↦ inl (0, omega arith, here)
      | inr apart ↦
          elim (find_basic es k) [
            | inl found ↦ inl (suc found.0, omega (arith, found.1), found.2)
            | inr none ↦ inr (both apart none)
          ]
    ]
  where
    both : (e.basic ≡ k → ⊥) → ((i : ℕ) → i < length es → (equation_at es i).basic ≢ k) → (i : ℕ) → i < length (e ∷ es)
        → (equation_at (e ∷ es) i).basic ≢ k
    both apart none zero h same = apart same
    both apart none (suc i) h same = none i (omega arith) same
