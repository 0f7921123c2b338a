-- How large a model may be.
use Rattle.std.specs.Prelude.{ℕ, nat_lt, length, Result, Ok, Err, sum_by, if◌then◌else◌}
use Rattle.opt_base.specs.declared.refusal.Refusal.{Refusal}
use Rattle.opt_base.specs.declared.limits.TheConstants.{QUANTITY_LIMIT, ROW_LIMIT, TERM_LIMIT, QUANTITIES_COLUMN, ROWS_COLUMN, TERMS_COLUMN}
use Rattle.opt_base.specs.Refusals.{too_many}
use Rattle.opt_model.specs.Tables.{Tables}
use Rattle.opt_model.specs.Quantities.{quantities}
use Rattle.opt_model.specs.Rows.{rows, coefficients_by_number}

-- the coefficients other than 0 of all rows
abbrev pub term_count : Tables → ℕ
term_count t = sum_by (λ r. length (coefficients_by_number (quantities t) r.left)) (rows t)

-- the model, or the first of its counts that is past its limit
abbrev pub within_limits : Tables → Result Tables Refusal
within_limits t =
    if nat_lt QUANTITY_LIMIT (length (quantities t)) then Err (too_many QUANTITIES_COLUMN (length (quantities t)))
    else (if nat_lt ROW_LIMIT (length (rows t)) then Err (too_many ROWS_COLUMN (length (rows t)))
    else (if nat_lt TERM_LIMIT (term_count t) then Err (too_many TERMS_COLUMN (term_count t)) else Ok t))
