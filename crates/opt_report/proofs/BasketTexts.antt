-- The records of a basket in a month.
use Rattle.std.proofs.Common.{◌≡◌, ℕ, List, ◌++◌, ap, ◌∙◌, append_assoc}
use Rattle.opt_model.specs.Plans.{Plan}
use Rattle.opt_model.specs.Quantities.{over}
use Rattle.opt_model.specs.Tables.{Tables}
use Rattle.opt_report.specs.Rations.{ration_record, short_at, monthly_records}

-- its rations and then its shortfalls
pub rations_and_shorts : (t : Tables) (plan : Plan) (month basket : ℕ) (old middle new : List ℕ) → middle ≡ old ++ (over t.commodities λ c _. ration_record t plan month basket c)
    → new ≡ middle ++ (over t.needs λ d _. short_at t plan month basket d) → new ≡ old ++ monthly_records t plan month basket
rations_and_shorts t plan month basket old middle new rations shorts =
    shorts
    ∙ (ap (λ (text : List ℕ). text ++ (over t.needs λ d _. short_at t plan month basket d)) rations
    ∙ append_assoc old (over t.commodities λ c _. ration_record t plan month basket c) (over t.needs λ d _. short_at t plan month basket d))
