-- The multipliers of equations in order keep what multipliers keep.
use Rattle.std.proofs.Common.{◌≡◌, ℕ, ◌+◌, ◌<◌, Bool, List, [], ℤ, pos, neg_ℤ, unsigned_abs, All, arith}
use Rattle.std.proofs.lemmas.Int.{ints}
use Rattle.std.proofs.lemmas.List.Elements.{All-weaker}
use Rattle.opt_sums.specs.Entries.{AllBelow}
use Rattle.opt_frac.specs.Divisors.{Fits}
use Rattle.opt_frac.specs.Equations.{Equation, IsReduced}
use Rattle.opt_frac.specs.Elimination.{whole, negated_if}
use Rattle.opt_frac.proofs.NeatSteps.{IsNeat}
use Rattle.opt_frac.proofs.ReducedLemmas.{bound_of, neat}
use Rattle.opt_simplex.specs.Kept.{AreRaw}
use Rattle.opt_simplex.specs.Tableau.{at_rows}
use Rattle.opt_simplex.proofs.RawLemmas.{raw-cost, raw-empty, values-more}

-- the equation is neat over enough variables, its own among them
neat_over : (e : Equation) → IsReduced e → (n : ℕ) × IsNeat n e × (e.basic < n)
neat_over e h =
    let most : (n : ℕ) × AllBelow n e.terms = bound_of e.terms in
    let n : ℕ = most.0 + (e.basic + 1) in (
      most.0 + (e.basic + 1),
      neat e (most.0 + (e.basic + 1)) h.solved (All-weaker (λ d. d.0 < most.0) (λ d. d.0 < most.0 + (e.basic + 1)) (λ d k. omega arith) e.terms most.1),
      omega arith,
    )

pub raw-cost_parts : (n : ℕ) (e : Equation) (q : ℤ) (entries : List (ℕ × ℤ)) → IsReduced e → q ≡ e.lead → entries ≡ at_rows n e.terms
    → AreRaw (record { q = q; entries = entries })
raw-cost_parts n e q entries h lead at =
    let over : (m : ℕ) × IsNeat m e × (e.basic < m) = neat_over e h in
    rw (lead, at) (raw-cost n over.0 (record { equations = []; cost = e; at_high = [] }) over.1 h.solved.lead_fits h.solved.fitting)

pub raw-empty_parts : (n : ℕ) (below : Bool) (e : Equation) (entries : List (ℕ × ℤ)) → IsReduced e
    → entries ≡ at_rows n (negated_if below (whole e)) → AreRaw (record { q = pos 0; entries = entries })
raw-empty_parts n below e entries h at =
    let over : (m : ℕ) × IsNeat m e × (e.basic < m) = neat_over e h in
    rw at (raw-empty n over.0 below e over.1 over.2 h.solved.lead_fits h.solved.fitting)

pub whole-fits : (e : Equation) → IsReduced e → All (λ d. Fits d.1) (whole e)
whole-fits e h =
    values-more Fits (e.basic, neg_ℤ e.lead) e.terms h.solved.apart
    (let same : unsigned_abs (neg_ℤ e.lead) ≡ unsigned_abs e.lead = omega (arith, ints) in rw same h.solved.lead_fits) h.solved.fitting
