-- The equations of the start, one by one.
use Rattle.std.proofs.Common.{◌≡◌, ◌≢◌, ℕ, zero, suc, ◌+◌, ◌*◌, ◌<◌, ◌≤◌, List, [], ◌∷◌, ◌++◌, length, take, max, not, ◌==◌, ℤ, pos, unsigned_abs, All, refl, ap, sym, ◌∙◌, arith}
use Rattle.std.specs.List.{enumerate_from}
use Rattle.std.proofs.lemmas.Int.{ints}
use Rattle.std.proofs.lemmas.Bool.{eq-eqb, ne_eqb}
use Rattle.std.proofs.lemmas.List.{append-nil, get_or_default}
use Rattle.std.proofs.lemmas.List.FromFn.{length-enumerate_from, get_or-enumerate_from}
use Rattle.std.proofs.lemmas.List.Elements.{All-filter, All-weaker, filter-append}
use Rattle.std.proofs.Math.Nat.{le-mul_of_pos_right}
use Rattle.opt_sums.specs.Sums.{at}
use Rattle.opt_system.specs.declared.rows.Row.{Row}
use Rattle.opt_system.specs.Systems.{System, IsLimited, IsSmallBy, row_at}
use Rattle.opt_frac.specs.Divisors.{Fits}
use Rattle.opt_frac.specs.Equations.{Equation, IsSolved, lowest, equation_of}
use Rattle.opt_frac.proofs.DivisorLemmas.{gcd_with-one, quotients-one}
use Rattle.opt_simplex.specs.Tableau.{row_equations, not_zeros}
use Rattle.opt_simplex.proofs.Meeting.{cost_entries, AllBelow-cost_entries}
use Rattle.opt_simplex.proofs.Starts.{not_zeros-none, cost_rising}

-- an equation of lead 1 is in lowest terms
pub lowest-one : (basic : ℕ) (terms : List (ℕ × ℤ)) → lowest (equation_of basic (pos 1) terms) ≡ equation_of basic (pos 1) terms
unfolding lowest
lowest-one basic terms = rw (gcd_with-one terms, quotients-one terms) refl

-- one row more
pub row_equations-more : (k : ℕ) (rows : List Row) (i : ℕ) (e : Equation) → i < length rows
    → e ≡ record { basic = k + i; lead = pos 1; terms = (row_at rows i).terms }
    → row_equations k (take (i + 1) rows) ≡ row_equations k (take i rows) ++ e ∷ []
row_equations-more k [] i e h is = absurd (omega arith)
row_equations-more k (row ∷ rows) zero e h is =
    let number : k + zero ≡ k = omega arith in
    ap (λ b. record { basic = b; lead = pos 1; terms = row.terms } ∷ []) (sym number) ∙ ap (λ d. d ∷ []) (sym is)
row_equations-more k (row ∷ rows) (suc i) e h is =
    let number : k + suc i ≡ (k + 1) + i = omega arith in
    let next : suc i + 1 ≡ suc (i + 1) = omega arith in
    ap (λ n. row_equations k (take n (row ∷ rows))) next
    ∙ ap (λ es. record { basic = k; lead = pos 1; terms = row.terms } ∷ es)
    (row_equations-more (k + 1) rows i e (omega arith) (is ∙ ap (λ b. record { basic = b; lead = pos 1; terms = (row_at rows i).terms }) number))

-- one number more
pub enumerate-more : (n : ℕ) (xs : List ℤ) (i : ℕ) → i < length xs
    → enumerate_from n (take (i + 1) xs) ≡ enumerate_from n (take i xs) ++ (n + i, at xs i) ∷ []
enumerate-more n [] i h = absurd (omega arith)
enumerate-more n (x ∷ xs) zero h = let number : n + zero ≡ n = omega arith in ap (λ k. (k, x) ∷ []) (sym number)
enumerate-more n (x ∷ xs) (suc i) h =
    let number : (n + 1) + i ≡ n + suc i = omega arith in
    let next : suc i + 1 ≡ suc (i + 1) = omega arith in
    ap (λ m. enumerate_from n (take m (x ∷ xs))) next
    ∙ ap (λ es. (n, x) ∷ es) (enumerate-more (n + 1) xs i (omega arith) ∙ ap (λ k. enumerate_from (n + 1) (take i xs) ++ (k, at xs i) ∷ []) number)

from_zero : (j : ℕ) → j ≡ 0 + j
from_zero j = omega arith

-- a cost that is not 0
pub cost-left : (costs : List ℤ) (j : ℕ) (made : List (ℕ × ℤ)) → j < length costs → at costs j ≢ pos 0
    → made ≡ not_zeros (enumerate_from 0 (take j costs)) → made ++ (j, at costs j) ∷ [] ≡ not_zeros (enumerate_from 0 (take (j + 1) costs))
cost-left costs j made h some now =
    let apart : unsigned_abs (at costs j) ≢ 0 = λ z. some (omega (arith, ints, z)) in
    let one : not_zeros ((j, at costs j) ∷ []) ≡ (j, at costs j) ∷ [] = rw (ne_eqb (unsigned_abs (at costs j)) 0 apart) refl in
    ap (λ es. es ++ (j, at costs j) ∷ []) now
    ∙ ap (λ ds. not_zeros (enumerate_from 0 (take j costs)) ++ ds) (sym one)
    ∙ sym (filter-append (λ e. not (unsigned_abs e.1 == 0)) (enumerate_from 0 (take j costs)) ((j, at costs j) ∷ []))
    ∙ ap (λ k. not_zeros (enumerate_from 0 (take j costs) ++ (k, at costs j) ∷ [])) (from_zero j)
    ∙ ap not_zeros (sym (enumerate-more 0 costs j h))

-- a cost of 0
pub cost-gone : (costs : List ℤ) (j : ℕ) (made : List (ℕ × ℤ)) → j < length costs → at costs j ≡ pos 0
    → made ≡ not_zeros (enumerate_from 0 (take j costs)) → made ≡ not_zeros (enumerate_from 0 (take (j + 1) costs))
cost-gone costs j made h none now =
    let zero_size : unsigned_abs (at costs j) ≡ 0 = ap unsigned_abs none in
    let nothing : not_zeros ((j, at costs j) ∷ []) ≡ [] = rw (eq-eqb (unsigned_abs (at costs j)) 0 zero_size) refl in
    now
    ∙ sym (append-nil (not_zeros (enumerate_from 0 (take j costs))))
    ∙ ap (λ ds. not_zeros (enumerate_from 0 (take j costs)) ++ ds) (sym nothing)
    ∙ sym (filter-append (λ e. not (unsigned_abs e.1 == 0)) (enumerate_from 0 (take j costs)) ((j, at costs j) ∷ []))
    ∙ ap (λ k. not_zeros (enumerate_from 0 (take j costs) ++ (k, at costs j) ∷ [])) (from_zero j)
    ∙ ap not_zeros (sym (enumerate-more 0 costs j h))

small_fits : (number high : ℤ) → IsSmallBy number high → Fits number
small_fits number high h =
    let more : unsigned_abs number ≤ unsigned_abs number * max (unsigned_abs high) 1 = le-mul_of_pos_right (unsigned_abs number) (omega arith) in
    omega arith

module _ (p : System) (limits : IsLimited p) where
  pub cost-solved : IsSolved (equation_of (length p.cost + length p.rows) (pos 1) (not_zeros (enumerate_from 0 p.cost)))
  cost-solved =
      record {
        lead_positive = omega (arith, ints);
        lead_fits = omega arith;
        rising = cost_rising p;
        no_zero = not_zeros-none (enumerate_from 0 p.cost);
        apart = All-weaker (λ e. e.0 < length p.cost) (λ e. e.0 ≢ length p.cost + length p.rows) (λ e h same. omega arith) (cost_entries p) (AllBelow-cost_entries p);
        fitting = All-filter (λ e. not (unsigned_abs e.1 == 0)) (λ e. Fits e.1) (enumerate_from 0 p.cost) fitting_all;
      }
    where
      fitting_all : All (λ e. Fits e.1) (enumerate_from 0 p.cost)
      fitting_all k d h =
          let inside : k < length p.cost = omega (arith, length-enumerate_from 0 p.cost, h) in
          rw (get_or-enumerate_from 0 p.cost k d inside)
          (rw (get_or_default p.cost k d.1 (pos 0) inside) (small_fits (at p.cost k) (at p.root.high k) (limits.small.costs.small k inside)))
