use Rattle.std.proofs.Common.{◌≡◌, to_z, of_z, pos, ◌≤ℤ◌, ap, ◌∙◌, subst, arith}
use mir.Syntax.{w64}
use Rattle.std.proofs.lemmas.Int.{ints}
use Rattle.opt_model.specs.Settings.{Settings}
use Rattle.opt_model.specs.Tables.{Tables}
use Rattle.optimus.proofs.Certificates.{judged, summed_by_text}
use Rattle.optimus.proofs.checking.judge.Goals as goal

pub check_bytes-requires-clause-gap_from_zero : goal.check_bytes-requires-clause-gap_from_zero
check_bytes-requires-clause-gap_from_zero c =
    let cast : to_z w64 (of_z w64 c.gap-gap.result) ≡ c.gap-gap.result = omega (arith, ints) in
    let same : c.gap-gap.result ≡ c.args.problem.now.settings.gap =
    c.gap-gap.ensures ∙ (ap (λ (s : Settings). s.gap) c.settings.ensures.value ∙ ap (λ (m : Tables). m.settings.gap) c.tables.ensures)
    in
    let least : pos 0 ≤ℤ c.args.problem.now.settings.gap = subst (λ (m : Tables). pos 0 ≤ℤ m.settings.gap) c.tables.ensures c.settings.ensures.model.settings.gap.0 in
    omega (arith, ints, cast, same, least)

pub returns-clause-checks : goal.returns-clause-checks
returns-clause-checks c =
    let cast : to_z w64 (of_z w64 c.gap-gap.result) ≡ c.gap-gap.result = omega (arith, ints) in
    let same : to_z w64 (of_z w64 c.gap-gap.result) ≡ c.args.problem.now.settings.gap =
    cast ∙ (c.gap-gap.ensures ∙ (ap (λ (s : Settings). s.gap) c.settings.ensures.value ∙ ap (λ (m : Tables). m.settings.gap) c.tables.ensures))
    in
    judged c.args.problem.now c.args.bytes.now c.system-system.result.now (to_z w64 (of_z w64 c.gap-gap.result)) c.node_limit.result c.system-system.ensures.system same
    c.node_limit.ensures.exact c.check_bytes.result c.check_bytes.ensures.text c.check_bytes.ensures.shown c.check_bytes.ensures.true_verdict

pub returns-clause-summed : goal.returns-clause-summed
returns-clause-summed c =
    let cast : to_z w64 (of_z w64 c.gap-gap.result) ≡ c.gap-gap.result = omega (arith, ints) in
    let same : c.gap-gap.result ≡ c.args.problem.now.settings.gap =
    c.gap-gap.ensures ∙ (ap (λ (s : Settings). s.gap) c.settings.ensures.value ∙ ap (λ (m : Tables). m.settings.gap) c.tables.ensures)
    in
    let least : pos 0 ≤ℤ c.args.problem.now.settings.gap = subst (λ (m : Tables). pos 0 ≤ℤ m.settings.gap) c.tables.ensures c.settings.ensures.model.settings.gap.0 in
    let from_zero : pos 0 ≤ℤ to_z w64 (of_z w64 c.gap-gap.result) = omega (arith, ints, cast, same, least) in
    summed_by_text c.system-system.result.now (to_z w64 (of_z w64 c.gap-gap.result)) c.node_limit.result c.args.bytes.now c.check_bytes.result
    c.quantities-quantities.ensures.limited from_zero c.check_bytes.ensures.shown c.check_bytes.ensures.true_verdict
