use Rattle.std.proofs.Common.{◌≡◌, ℤ, FitsSigned, to_z, of_z, subst}
use Rattle.std.specs.Prelude.{IfOk}
use Rattle.std.proofs.lemmas.Int.{to_z-of_z}
use mir.Syntax.{w64}
use Rattle.opt_plan.specs.Outcomes.{IsTrueOfAsked, IsProved}
use Rattle.opt_plan.proofs.Promises.{proved_by, true_by, decided_by}
use Rattle.opt_plan.proofs.planning.plan_system.Goals as goal

-- the gap is handed on as it is
same_gap : (gap : ℤ) → FitsSigned w64 gap → to_z w64 (of_z w64 gap) ≡ gap
same_gap gap fits = simp to_z-of_z

pub returns-clause-true_verdict : goal.returns-clause-true_verdict
returns-clause-true_verdict g c =
    subst (λ (z : ℤ). IfOk c.search.result (IsTrueOfAsked c.args.system.now z)) (same_gap c.args.gap c.ranges.gap)
    (true_by c.args.system.now (to_z w64 (of_z w64 c.args.gap)) c.args.limit c.search.result c.search.ensures.true_verdict)

pub returns-clause-decided : goal.returns-clause-decided
returns-clause-decided g c =
    decided_by c.args.system.now (to_z w64 (of_z w64 c.args.gap)) c.args.limit c.search.result c.search.ensures.true_verdict c.search.ensures.unfinished

pub returns-clause-proved : goal.returns-clause-proved
returns-clause-proved g c =
    subst (λ (z : ℤ). IfOk c.search.result (IsProved c.args.system.now z c.args.limit)) (same_gap c.args.gap c.ranges.gap)
    (proved_by c.args.system.now (to_z w64 (of_z w64 c.args.gap)) c.args.limit c.search.result c.quantities-quantities.ensures.limited
    c.search.ensures.true_verdict c.search.ensures.shown c.search.ensures.certificate c.search.ensures.parted c.search.ensures.counted
    c.search.ensures.unfinished)
