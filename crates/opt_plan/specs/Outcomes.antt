-- What is promised of the outcome of a plan, whatever its guide said.
use Rattle.std.specs.Prelude.{◌≡◌, ℕ, ◌+◌, ◌*◌, ◌≤◌, Some, None, IfSome, Ok, ℤ, ◌≤ℤ◌}
use Rattle.std.specs.Int.{int_min}
use Rattle.opt_base.specs.declared.verdict.Verdict.{Verdict}
use Rattle.opt_base.specs.declared.verdict.Verdict.TheVariants as verdict
use Rattle.opt_model.specs.Tables.{Tables}
use Rattle.opt_model.specs.Quantities.{quantities}
use Rattle.opt_model.specs.Plans.{Plan, plan_of}
use Rattle.opt_system.specs.Ranges.{points}
use Rattle.opt_system.specs.Systems.{System, Meets}
use Rattle.opt_bound.specs.declared.leaf.Leaf.{Leaf}
use Rattle.opt_bound.specs.declared.leaf.Leaf.TheVariants.{Empty, AtLeast}
use Rattle.opt_tree.specs.declared.outcome.Outcome.{Outcome}
use Rattle.opt_tree.specs.Certificates.{IsCertificate}
use Rattle.opt_tree.specs.Outcomes.{outcome_certificate}
use Rattle.opt_tree.specs.Shown.{leaf_at, shown}
use Rattle.opt_search.specs.Outcomes.{best_point, Parts, IsCounted, IsUnfinishedAt}
use Rattle.opt_plan.specs.Questions.{Question, IsTrueAnswer, IsDecided, Asks}

-- the plan of the best point, or the plan of nothing where none is known
abbrev pub best_plan : Tables → Outcome → Plan
best_plan t o = plan_of (quantities t) (best_point o)

-- the verdict is a true answer to each question that the system asks
abbrev pub IsTrueOfAsked : System → ℤ → Outcome → Type 0
IsTrueOfAsked s gap o = (q : Question) → Asks s q → IsTrueAnswer q gap o.verdict (best_plan q.tables o)

-- where the limit allows to split down to the points of its box, the verdict decides each question that the system asks
abbrev pub DecidesAsked : System → ℕ → Outcome → Type 0
DecidesAsked s limit o = (q : Question) → Asks s q → 2 * points q.root ≤ limit + 1 → IsDecided q o.verdict

-- the verdict says whether there is a plan
abbrev pub IsFinished : Verdict → Type 0
IsFinished (verdict.Plan objective bound) = Unit {0}
IsFinished verdict.NoPlan = Unit {0}
IsFinished (verdict.Unfinished bound best) = ⊥

-- the verdict takes up what the root line shows of the root: that there is no plan, or a lower bound, above which the
-- printed bound lies, but for a best value that is lower still
abbrev pub KeepsRootLine : Leaf → Verdict → Type 0
KeepsRootLine Empty v = v ≡ verdict.NoPlan
KeepsRootLine (AtLeast least) (verdict.Plan objective bound) = int_min objective least ≤ℤ bound
KeepsRootLine (AtLeast least) verdict.NoPlan = Unit {0}
KeepsRootLine (AtLeast least) (verdict.Unfinished bound None) = least ≤ℤ bound
KeepsRootLine (AtLeast least) (verdict.Unfinished bound (Some best)) = int_min best least ≤ℤ bound

-- the outcome's certificate shows its verdict, and can be written; its boxes part the root, and its nodes are within the
-- limit; it is unfinished only with an open leaf and no room for two more nodes, and never where the limit allows to
-- split down to the points; the bound keeps the root line; the best point, where one is known, meets the system
pub record IsProved (s : System) (gap : ℤ) (limit : ℕ) (o : Outcome) : Type 0 where
  pub verdict_shown : shown s gap limit (outcome_certificate o) ≡ Ok o.verdict
  pub certificate : IsCertificate (outcome_certificate o)
  pub parted : Parts s.root o
  pub counted : IsCounted (points s.root) limit o
  pub unfinished : IsUnfinishedAt s gap limit o
  pub finished : 2 * points s.root ≤ limit + 1 → IsFinished o.verdict
  pub root_line : KeepsRootLine (leaf_at s s.root o.root) o.verdict
  pub best_met : IfSome o.best (Meets s)
