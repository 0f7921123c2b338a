-- The plan of a folder's plan file, from what was found of it.
use Rattle.std.proofs.Common.{◌≡◌, ℕ, List, Option, Result, Ok, Err, ℤ, refl, sym}
use Rattle.opt_base.specs.Answers.{◌>>=◌}
use Rattle.opt_base.specs.Outside.{Files}
use Rattle.opt_base.specs.declared.refusal.File.TheVariants as file
use Rattle.opt_base.specs.declared.refusal.Refusal.{Refusal}
use Rattle.opt_model.specs.Tables.{Tables}
use Rattle.opt_report.specs.PlanFiles.{plan_values}
use Rattle.opt_tables.specs.Fetched.{IsGot}
use Rattle.opt_tables.specs.declared.fault.FetchFault.{FetchFault}
use Rattle.opt_tables.specs.declared.fault.FetchFault.TheVariants.{Refused, Outside, OutOfMemory}
use Rattle.optimus.specs.declared.limits.TheConstants.{PLAN_LIMIT}
use Rattle.optimus.specs.Folder.{Brings, IsFileIn}
use Rattle.optimus.specs.Auditing.{IsPlanIn}

module _ (told : Option Files) (folder : List ℕ) (t : Tables) where
  -- the file was found and read
  pub brings_plan : (bytes : List ℕ) (result : Result (List ℤ) FetchFault) → IsFileIn told folder file.Plan PLAN_LIMIT (Ok bytes) → IsGot (λ x. x) result (plan_values t bytes) → Brings (IsPlanIn told folder t) result
  brings_plan bytes (Ok x) is got = record { found = Ok bytes; found_is = is; plan_is = sym got }
  brings_plan bytes (Err (Refused refusal)) is got = record { found = Ok bytes; found_is = is; plan_is = sym got }
  brings_plan bytes (Err Outside) is got = tt
  brings_plan bytes (Err OutOfMemory) is got = tt

  -- the file was refused as a whole, or not found
  pub brings_no_plan : (fault : FetchFault) → Brings (IsFileIn told folder file.Plan PLAN_LIMIT) (Err fault) → Brings (IsPlanIn told folder t) (Err fault)
  brings_no_plan (Refused refusal) is = record { found = Err refusal; found_is = is; plan_is = refl }
  brings_no_plan Outside is = tt
  brings_no_plan OutOfMemory is = tt
