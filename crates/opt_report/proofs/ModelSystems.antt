-- The system of a model, where its rows and terms are few enough.
use Rattle.std.proofs.Common.{◌≡◌, Bool, true, false, length, None, Result, Ok, Err}
use Rattle.std.specs.Prelude.{IfOk, if◌then◌else◌, nat_lt}
use Rattle.opt_base.specs.Answers.{Gives}
use Rattle.opt_base.specs.Refusals.{too_many}
use Rattle.opt_base.specs.declared.limits.TheConstants.{ROW_LIMIT, TERM_LIMIT, ROWS_COLUMN, TERMS_COLUMN}
use Rattle.opt_base.specs.declared.refusal.ModelFault.{ModelFault}
use Rattle.opt_base.specs.declared.refusal.Refusal.{Refusal}
use Rattle.opt_model.specs.Tables.{Tables}
use Rattle.opt_model.specs.declared.records.Goal.{Goal}
use Rattle.opt_rows.specs.Systems.{system_rows, system_of, model_system}
use Rattle.opt_system.specs.Systems.{System, term_count}

only : (b d : Bool) (x y : Refusal) (r p : System) → (if b then Err x else if d then Err y else Ok r) ≡ Ok p → p ≡ r
only true d x y r p e = cc
only false true x y r p e = cc
only false false x y r p e = cc

made_system : (t : Tables) (goal : Goal) (p : System) → model_system t goal None ≡ Ok p → p ≡ system_of t goal None
made_system t goal p e =
    only (nat_lt ROW_LIMIT (length (system_rows t None))) (nat_lt TERM_LIMIT (term_count (system_rows t None)))
    (too_many ROWS_COLUMN (length (system_rows t None))) (too_many TERMS_COLUMN (term_count (system_rows t None))) (system_of t goal None) p e

-- the same of the answer of a call
pub built_system : (t : Tables) (goal : Goal) (r : Result System ModelFault) → Gives (λ s. s) r (model_system t goal None) → IfOk r (λ s. s ≡ system_of t goal None)
built_system t goal (Ok p) e = made_system t goal p e
built_system t goal (Err fault) e = tt
