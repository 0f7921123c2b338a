-- What an audit prints of a plan.
use Rattle.std.specs.Prelude.{ℕ, List, ◌++◌, length, codes, ℤ, slice_get}
use Rattle.std.specs.List.{flat_map}
use Rattle.std.specs.Fmt.{decimal, signed_decimal}
use Rattle.std.specs.Option.{option_map_or}
use Rattle.opt_model.specs.Plans.{Plan}
use Rattle.opt_model.specs.RowTexts.{row_text}
use Rattle.opt_model.specs.Rows.{rows}
use Rattle.opt_model.specs.Tables.{Tables}
use Rattle.opt_model.specs.Texts.{record_name}
use Rattle.opt_report.specs.Broken.{breaches_of}

-- the printed name of the row of a number
abbrev pub row_name : Tables → ℕ → List ℕ
row_name t number = record_name (rows t) number (λ r. row_text t r.name)

-- the line of a broken row
abbrev pub broken_line : Tables → ℕ × ℤ → List ℕ
broken_line t breach = codes "broken " ++ (row_name t breach.0 ++ (codes " by " ++ (signed_decimal breach.1 ++ codes "\n")))

-- a line for each of these rows, and one with their count
abbrev pub audit_text : Tables → List (ℕ × ℤ) → List ℕ
audit_text t breaches = flat_map (broken_line t) breaches ++ (codes "audit " ++ (decimal (length breaches) ++ codes " broken\n"))

-- what an audit prints of a plan
abbrev pub audit_of : Tables → Plan → List ℕ
audit_of t plan = audit_text t (breaches_of t plan)
