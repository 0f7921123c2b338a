-- What a search promises of its outcome, as one relation.
use Rattle.std.proofs.Common.{◌≡◌, ℕ, ◌+◌, ◌*◌, ◌≤◌, ◌<◌, List, [], Option, Some, None, option_map, is_some, Ok, Err, Result, ℤ, ap, arith}
use Rattle.std.specs.Prelude.{IfOk, IfSome, unwrap_or}
use Rattle.opt_base.specs.declared.verdict.Verdict.{Verdict}
use Rattle.opt_base.specs.declared.verdict.Verdict.TheVariants as verdict
use Rattle.opt_system.specs.Ranges.{points}
use Rattle.opt_system.specs.Systems.{System, IsLimited, Meets}
use Rattle.opt_tree.specs.declared.outcome.Outcome.{Outcome}
use Rattle.opt_tree.specs.Certificates.{IsCertificate, named_value, entries_of}
use Rattle.opt_tree.specs.Outcomes.{outcome_certificate}
use Rattle.opt_tree.specs.Shown.{shown}
use Rattle.opt_tree.specs.Verdicts.{IsTrueVerdict}
use Rattle.opt_search.specs.Outcomes.{best_point, Parts, IsCounted, EndsEarlyWhere, IsUnfinishedAt}
use Rattle.opt_model.specs.Plans.{Plan}
use Rattle.opt_plan.specs.Questions.{Question, IsTrueAnswer, IsDecided}
use Rattle.opt_plan.specs.Outcomes.{best_plan, IsTrueOfAsked, DecidesAsked, IsFinished, IsProved}
use Rattle.opt_plan.proofs.TrueAnswers.{true_answer}
use Rattle.opt_plan.proofs.RootLines.{keeps_root_line}

-- a search is finished where its limit allows to split down to the points
finished_by : (s : System) (gap : ℤ) (limit : ℕ) (o : Outcome) (v : Verdict) → EndsEarlyWhere s gap limit o v → 2 * points s.root ≤ limit + 1 → IsFinished v
finished_by s gap limit o (verdict.Plan objective bound) h enough = tt
finished_by s gap limit o verdict.NoPlan h enough = tt
finished_by s gap limit o (verdict.Unfinished bound best) h enough =
    let short : limit + 1 < 2 * points s.root = h.limit_short in
    absurd (omega arith)

-- the point of a true verdict meets the system, where one is named
met_by : (s : System) (gap : ℤ) (v : Verdict) (best : Option (List ℤ)) → IsTrueVerdict s gap v (unwrap_or best [])
    → is_some (option_map entries_of best) ≡ is_some (named_value v) → IfSome best (Meets s)
met_by s gap v None h named = tt
met_by s gap (verdict.Plan objective bound) (Some x) h named = h.attains.meets
met_by s gap verdict.NoPlan (Some x) h named = absurd cc
met_by s gap (verdict.Unfinished bound None) (Some x) h named = absurd cc
met_by s gap (verdict.Unfinished bound (Some best)) (Some x) h named = h.attains.meets

-- a finished verdict that is a true answer decides the question
decision : (q : Question) (v : Verdict) (plan : Plan) (gap : ℤ) → IsTrueAnswer q gap v plan → IsFinished v → IsDecided q v
decision q (verdict.Plan objective bound) plan gap h finished = (plan, h.attains.sought)
decision q verdict.NoPlan plan gap h finished = h
decision q (verdict.Unfinished bound best) plan gap h finished = finished

module _ {E : Type 0} (s : System) (gap : ℤ) (limit : ℕ) where
  pub proved_by : (r : Result Outcome E) → IsLimited s → IfOk r (λ o. IsTrueVerdict s gap o.verdict (best_point o))
      → IfOk r (λ o. shown s gap limit (outcome_certificate o) ≡ Ok o.verdict) → IfOk r (λ o. IsCertificate (outcome_certificate o))
      → IfOk r (Parts s.root) → IfOk r (IsCounted (points s.root) limit) → IfOk r (IsUnfinishedAt s gap limit) → IfOk r (IsProved s gap limit)
  proved_by (Ok o) limited is_true verdict_shown certificate parted counted unfinished = record {
    verdict_shown = verdict_shown;
    certificate = certificate;
    parted = parted;
    counted = counted;
    unfinished = unfinished;
    finished = finished_by s gap limit o o.verdict unfinished;
    root_line = keeps_root_line s gap limit (outcome_certificate o) o.verdict limited certificate verdict_shown;
    best_met = met_by s gap o.verdict o.best is_true certificate.point_where_named;
  }
  proved_by (Err e) limited is_true verdict_shown certificate parted counted unfinished = tt

  pub decided_by : (r : Result Outcome E) → IfOk r (λ o. IsTrueVerdict s gap o.verdict (best_point o)) → IfOk r (IsUnfinishedAt s gap limit) → IfOk r (DecidesAsked s limit)
  decided_by (Ok o) true_verdict unfinished = λ q asks enough.
      let same : points s.root ≡ points q.root = ap (λ (p : System). points p.root) asks.system in
      decision q o.verdict (best_plan q.tables o) gap (true_answer s gap o.verdict (best_point o) q asks true_verdict)
      (finished_by s gap limit o o.verdict unfinished (omega (arith, same, enough)))
  decided_by (Err e) true_verdict unfinished = tt

  pub true_by : (r : Result Outcome E) → IfOk r (λ o. IsTrueVerdict s gap o.verdict (best_point o)) → IfOk r (IsTrueOfAsked s gap)
  true_by (Ok o) h = λ q asks. true_answer s gap o.verdict (best_point o) q asks h
  true_by (Err e) h = tt
