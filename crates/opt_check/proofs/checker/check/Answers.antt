use Rattle.std.proofs.Common.{◌≡◌, ℤ, pos, ◌≤ℤ◌, to_z, of_z, Ok, ap, sym, ◌∙◌, subst, arith}
use mir.Syntax.{w64}
use Rattle.std.proofs.lemmas.Int.{ints}
use Rattle.std.proofs.lemmas.Result.{err_from_is_err_and}
use Rattle.opt_cert.specs.Forests.{certificate_of_nodes}
use Rattle.opt_tree.specs.declared.cert_node.CertNode.{CertNode}
use Rattle.std.specs.Prelude.{List}
use Rattle.opt_tree.specs.Certificates.{Certificate, IsCertificate}
use Rattle.opt_tree.specs.Shown.{shown}
use Rattle.opt_check.specs.Answers.{Fails}
use Rattle.opt_check.specs.Claims.{look_claims, look_nodes}
use Rattle.opt_check.proofs.CheckSteps.{claims_fail, nodes_fail, all_show, verdict_true, Shows-same}
use Rattle.opt_check.proofs.checker.check.Goals as goal

pub returns-in_err-known-clause-shown : goal.returns-in_err-known-clause-shown
returns-in_err-known-clause-shown c =
    let p = err_from_is_err_and c.from_residual.result c.from_residual.ensures.1 in
    let e : to_z w64 (of_z w64 c.args.gap) ≡ c.args.gap = omega (arith, ints) in
    let failed : Fails c.in_err-known.field-0.0 (look_claims c.args.system.now c.args.gap c.cert.inside.verdict c.cert.inside.root c.cert.inside.point) =
    subst (λ (z : ℤ). Fails c.in_err-known.field-0.0 (look_claims c.args.system.now z c.cert.inside.verdict c.cert.inside.root c.cert.inside.point)) e c.in_err-known.ensures
    in
    rw (p.1, p.2)
    (subst (λ (d : Certificate). Fails c.in_err-known.field-0.0 (shown c.args.system.now c.args.gap c.args.limit d)) c.cert.view_is
    (claims_fail c.args.system.now c.args.gap c.args.limit (certificate_of_nodes c.cert.inside.verdict c.cert.inside.root c.cert.inside.point c.cert.inside.nodes) c.cert.inside.nodes c.cert.invariant.in_order c.in_err-known.field-0.0 failed))

pub returns-in_err-seen-clause-shown : goal.returns-in_err-seen-clause-shown
returns-in_err-seen-clause-shown c =
    let p = err_from_is_err_and c.from_residual-in_err-seen.result c.from_residual-in_err-seen.ensures.1 in
    let e : to_z w64 (of_z w64 c.args.gap) ≡ c.args.gap = omega (arith, ints) in
    let known : look_claims c.args.system.now c.args.gap c.cert.inside.verdict c.cert.inside.root c.cert.inside.point ≡ Ok c.in_ok-known.known =
    subst (λ (z : ℤ). look_claims c.args.system.now z c.cert.inside.verdict c.cert.inside.root c.cert.inside.point ≡ Ok c.in_ok-known.known) e c.in_ok-known.ensures
    in
    let failed : Fails c.in_err-seen.field-0.0 (look_nodes c.args.system.now c.in_ok-known.known c.cert.inside.nodes) =
    subst (λ (n : List CertNode). Fails c.in_err-seen.field-0.0 (look_nodes c.args.system.now c.in_ok-known.known n)) c.as_slice.ensures c.in_err-seen.ensures
    in
    rw (p.1, p.2)
    (subst (λ (d : Certificate). Fails c.in_err-seen.field-0.0 (shown c.args.system.now c.args.gap c.args.limit d)) c.cert.view_is
    (nodes_fail c.args.system.now c.args.gap c.args.limit (certificate_of_nodes c.cert.inside.verdict c.cert.inside.root c.cert.inside.point c.cert.inside.nodes) c.cert.inside.nodes c.cert.invariant.in_order c.in_ok-known.known c.in_err-seen.field-0.0 known failed))

is_shown : (c : goal.After-conclude) → shown c.args.system.now c.args.gap c.args.limit c.args.cert.now ≡ c.conclude.result
is_shown c =
    let e : to_z w64 (of_z w64 c.args.gap) ≡ c.args.gap = omega (arith, ints) in
    let known : look_claims c.args.system.now c.args.gap c.cert.inside.verdict c.cert.inside.root c.cert.inside.point ≡ Ok c.in_ok-known.known =
    subst (λ (z : ℤ). look_claims c.args.system.now z c.cert.inside.verdict c.cert.inside.root c.cert.inside.point ≡ Ok c.in_ok-known.known) e c.in_ok-known.ensures
    in
    let seen : look_nodes c.args.system.now c.in_ok-known.known c.cert.inside.nodes ≡ Ok c.in_ok-seen.seen =
    ap (look_nodes c.args.system.now c.in_ok-known.known) (sym c.as_slice.ensures) ∙ c.in_ok-seen.ensures
    in
    sym (ap (shown c.args.system.now c.args.gap c.args.limit) c.cert.view_is)
    ∙ all_show c.args.system.now c.args.gap c.args.limit (certificate_of_nodes c.cert.inside.verdict c.cert.inside.root c.cert.inside.point c.cert.inside.nodes) c.cert.inside.nodes c.cert.invariant.in_order c.in_ok-known.known c.in_ok-seen.seen known seen
    ∙ sym c.conclude.ensures

pub returns-clause-shown : goal.returns-clause-shown
returns-clause-shown c = Shows-same c.conclude.result (shown c.args.system.now c.args.gap c.args.limit c.args.cert.now) (is_shown c)

pub returns-clause-true_verdict : goal.returns-clause-true_verdict
returns-clause-true_verdict c =
    let gap : pos 0 ≤ℤ c.args.gap = c.requires.gap_from_zero in
    verdict_true c.args.system.now c.args.gap c.args.limit c.args.cert.now c.conclude.result c.quantities-quantities.ensures.limited gap (subst (λ (d : Certificate). IsCertificate d) c.cert.view_is c.cert.invariant.certificate) (is_shown c)
