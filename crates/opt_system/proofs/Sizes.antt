-- Sizes of the sums that a system makes.
use Rattle.std.proofs.Common.{ℕ, ◌*◌, ◌^◌, ◌≤◌, ◌<◌, List, length, take, ℤ, ◌*ℤ◌, unsigned_abs, All, arith}
use Rattle.std.proofs.lemmas.List.Elements.{All-take, All-weaker}
use Rattle.std.proofs.Math.ListN.{length-take}
use Rattle.opt_sums.specs.Sums.{at}
use Rattle.opt_sums.specs.Entries.{dot}
use Rattle.opt_sums.proofs.Ring.{size_mul}
use Rattle.opt_sums.proofs.EntryLemmas.{size_sum_over}

-- the sum of the first terms of a row at a point is far from the limits of 128 bits
pub size_dot-take : (terms : List (ℕ × ℤ)) (x : List ℤ) (i : ℕ) → All (λ e. unsigned_abs e.1 * unsigned_abs (at x e.0) < 2 ^ 51) terms → length terms ≤ 20000 → unsigned_abs (dot (take i terms) x) ≤ 2 ^ 51 * 20000
size_dot-take terms x i small few =
    let each : All (λ e. unsigned_abs (e.1 *ℤ at x e.0) * 1 ≤ 2 ^ 51) (take i terms) =
    All-take (λ e. unsigned_abs (e.1 *ℤ at x e.0) * 1 ≤ 2 ^ 51) i terms
    (All-weaker (λ e. unsigned_abs e.1 * unsigned_abs (at x e.0) < 2 ^ 51) (λ e. unsigned_abs (e.1 *ℤ at x e.0) * 1 ≤ 2 ^ 51) (λ e h. omega (arith, size_mul e.1 (at x e.0))) terms small)
    in
    omega (arith, size_sum_over (take i terms) (at x) 1 (2 ^ 51) each, length-take i terms)
