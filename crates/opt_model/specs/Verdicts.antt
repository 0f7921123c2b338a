-- What a verdict claims of a model.
use Rattle.std.specs.Prelude.{◌≡◌, ℕ, ◌/◌, ◌^◌, min, max, length, Some, None, ℤ, pos, ◌-ℤ◌, ◌≤ℤ◌}
use Rattle.opt_model.specs.Tables.{Tables}
use Rattle.opt_model.specs.Rows.{rows}
use Rattle.opt_model.specs.Plans.{Plan, Feasible, objective_of, Below}
use Rattle.opt_base.specs.declared.verdict.Verdict.{Verdict}
use Rattle.opt_base.specs.declared.verdict.Verdict.TheVariants as verdict

-- a feasible plan of this objective
pub record Attains (t : Tables) (plan : Plan) (objective : ℤ) : Type 0 where
  pub feasible : Feasible t plan
  pub objective_is : objective_of t plan ≡ objective

-- a plan whose objective lies above the bound by at most the permitted gap
pub record WithinGap (t : Tables) (plan : Plan) (objective bound : ℤ) : Type 0 where
  pub attains : Attains t plan objective
  pub bound_under : pos 0 ≤ℤ (objective -ℤ bound)
  pub gap_kept : (objective -ℤ bound) ≤ℤ t.settings.gap
  pub below : Below t bound

-- a plan that is known while better ones are not ruled out
pub record BestKnown (t : Tables) (plan : Plan) (bound best : ℤ) : Type 0 where
  pub attains : Attains t plan best
  pub bound_under : bound ≤ℤ best
  pub below : Below t bound

-- the verdict is true of the model, with this plan where it names an objective or a best
abbrev pub IsTrueVerdict : Tables → Verdict → Plan → Type 0
IsTrueVerdict t (verdict.Plan objective bound) plan = WithinGap t plan objective bound
IsTrueVerdict t verdict.NoPlan plan = (other : Plan) → Feasible t other → ⊥
IsTrueVerdict t (verdict.Unfinished bound None) plan = Below t bound
IsTrueVerdict t (verdict.Unfinished bound (Some best)) plan = BestKnown t plan bound best

-- how many nodes a search of the model may make
abbrev pub node_limit : Tables → ℕ
node_limit t = min t.settings.nodes (2 ^ 24 / max (length (rows t)) 1)
