-- The summary of a verdict.
use Rattle.std.specs.Prelude.{◌^◌, ℕ, List, codes, Option, Some, None, ℤ, pos, ◌-ℤ◌, ◌≤ℤ◌, IfSome}
use Rattle.std.specs.Fmt.{signed_decimal}
use Rattle.serde_json.specs.Data.{Data, null, number, unsigned, string, object, Members, member, no_members}
use Rattle.serde_json.specs.Written.{compact_text}
use Rattle.opt_base.specs.declared.verdict.Verdict.{Verdict}
use Rattle.opt_base.specs.declared.verdict.Verdict.TheVariants as verdict
use Rattle.opt_model.specs.Texts.{line}
use Rattle.opt_model.specs.declared.records.Goal.{Goal}
use Rattle.opt_model.specs.declared.records.Goal.TheVariants.{Cost, Shortfall}

-- a number from 0 to 2^126
pub record IsShown (z : ℤ) : Type 0 where
  pub from_zero : pos 0 ≤ℤ z
  pub small : z ≤ℤ pos (2 ^ 126)

-- the numbers of a verdict are from 0 to 2^126, and the bound of a plan is at most its objective
abbrev pub IsSummed : Verdict → Type 0
IsSummed (verdict.Plan objective bound) = IsShown objective × (IsShown bound × (bound ≤ℤ objective))
IsSummed verdict.NoPlan = Unit {0}
IsSummed (verdict.Unfinished bound best) = IsShown bound × IfSome best IsShown

-- what a goal is called
abbrev pub goal_word : Goal → List ℕ
goal_word Cost = codes "cost"
goal_word Shortfall = codes "shortfall"

-- a number as the text of its digits, since it may pass 64 bits
abbrev pub digits_of : ℤ → Data
digits_of z = string (signed_decimal z)

-- the best known objective, or null
abbrev pub best_of : Option ℤ → Data
best_of None = null
best_of (Some best) = digits_of best

-- the summary of a plan, whose numbers are given as texts of digits
abbrev pub plan_object : List ℕ → List ℕ → List ℕ → ℕ → List ℕ → Data
plan_object bound gap goal nodes objective = object
    (member (codes "bound") (string bound)
    (member (codes "gap") (string gap)
    (member (codes "goal") (string goal)
    (member (codes "nodes") (number (unsigned nodes))
    (member (codes "objective") (string objective) (member (codes "verdict") (string (codes "plan")) no_members))))))

-- the goal, the number of nodes and the verdict's word, with which every summary ends but for the objective of a plan
abbrev pub summary_of : Goal → Verdict → ℕ → Data
summary_of goal (verdict.Plan objective bound) nodes = plan_object (signed_decimal bound) (signed_decimal (objective -ℤ bound)) (goal_word goal) nodes (signed_decimal objective)
summary_of goal verdict.NoPlan nodes = object
    (member (codes "goal") (string (goal_word goal))
    (member (codes "nodes") (number (unsigned nodes)) (member (codes "verdict") (string (codes "no plan")) no_members)))
summary_of goal (verdict.Unfinished bound best) nodes = object
    (member (codes "best") (best_of best)
    (member (codes "bound") (digits_of bound)
    (member (codes "goal") (string (goal_word goal))
    (member (codes "nodes") (number (unsigned nodes)) (member (codes "verdict") (string (codes "unfinished")) no_members)))))

-- the summary: one object on one line, without a space, its keys in the order of bytes
abbrev pub summary_text : Goal → Verdict → ℕ → List ℕ
summary_text goal verdict nodes = line (compact_text (summary_of goal verdict nodes))
