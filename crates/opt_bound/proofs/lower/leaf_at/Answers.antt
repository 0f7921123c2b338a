use Rattle.std.proofs.Common.{◌≡◌, FitsSigned}
use Rattle.std.proofs.lemmas.Int.{to_z-of_z}
use mir.Syntax.{w64, w128}
use Rattle.opt_bound.specs.Verdict.{leaf_of}
use Rattle.opt_bound.proofs.LeafLemmas.{leaf_true, leaf_in_range}
use Rattle.opt_bound.proofs.lower.leaf_at.Goals as goal

pub returns-clause-value : goal.returns-clause-value
returns-clause-value c =
    let b : FitsSigned w128 c.bound.result = record { sfits = c.bound.type_inv } in
    let q : FitsSigned w64 c.q.result = record { sfits = c.q.type_inv } in
    let leaf : c.verdict_of.result ≡ leaf_of c.bound.result c.q.result = simp to_z-of_z at c.verdict_of.ensures.value in
    rw (← c.bound.ensures.value, ← c.q.ensures.value) leaf

pub returns-clause-law : goal.returns-clause-law
returns-clause-law c =
    let b : FitsSigned w128 c.bound.result = record { sfits = c.bound.type_inv } in
    let q : FitsSigned w64 c.q.result = record { sfits = c.q.type_inv } in
    leaf_true c.args.system.now c.args.range.now c.bound.result c.q.result c.verdict_of.result c.bound.ensures.limited
    (simp to_z-of_z at c.verdict_of.ensures.least)
    (λ x meets inside. rw c.q.ensures.value (c.bound.ensures.law c.requires.admissible x meets inside))

pub returns-clause-in_range : goal.returns-clause-in_range
returns-clause-in_range c =
    let b : FitsSigned w128 c.bound.result = record { sfits = c.bound.type_inv } in
    let q : FitsSigned w64 c.q.result = record { sfits = c.q.type_inv } in
    let leaf : c.verdict_of.result ≡ leaf_of c.bound.result c.q.result = simp to_z-of_z at c.verdict_of.ensures.value in
    rw leaf (leaf_in_range c.bound.result c.q.result c.bound.ensures.small)
