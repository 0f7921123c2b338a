-- What the worked examples say of a model: its rows as numbers, and the rows that a plan breaks.
use Rattle.std.proofs.Common.{ℕ, not, List, [], ◌∷◌, ℤ, ◌-ℤ◌, nat_abs}
use Rattle.std.specs.List.{flat_map}
use Rattle.opt_model.specs.Tables.{Tables}
use Rattle.opt_model.specs.Quantities.{quantities, list_if}
use Rattle.opt_model.specs.Rows.{Relation, Row, rows, coefficients_by_number}
use Rattle.opt_model.specs.Plans.{Plan, sum_of}
use Rattle.opt_model.specs.declared.quantity.RowName.{RowName}
use Rattle.opt_model.proofs.Feasibility.{holds}

-- a row as numbers: its name, how it stands, its coefficients by number, its right side
abbrev pub RowNumbers : Type 0
RowNumbers = RowName × Relation × List (ℕ × ℤ) × ℤ

abbrev pub row_numbers : Tables → Row → RowNumbers
row_numbers t r = (r.name, r.relation, coefficients_by_number (quantities t) r.left, r.right)

-- the rows that a plan breaks, each with the distance of its left side from its right side
abbrev pub broken_rows : Tables → Plan → List (RowName × ℕ)
broken_rows t plan = flat_map {A = RowName × ℕ} (λ r. list_if (not (holds plan r)) ((r.name, nat_abs (r.right -ℤ sum_of r.left plan)) ∷ [])) (rows t)
