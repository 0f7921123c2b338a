-- The report of what a plan costs.
use Rattle.std.specs.Prelude.{ℕ, ◌≤◌, ◌*◌, ◌^◌, unsigned_abs, Bool, true, false, ◌&&◌, ◌==◌, cond, List, [], ◌∷◌, ◌++◌, codes, ℤ, pos, ◌+ℤ◌, ◌*ℤ◌, if◌then◌else◌}
use Rattle.std.specs.Fmt.{decimal, signed_decimal}
use Rattle.std.specs.List.{range_with_len}
use Rattle.csv.specs.Writing.{row_text, default_writer}
use Rattle.opt_base.specs.declared.limits.TheConstants.{QUANTITY_LIMIT}
use Rattle.opt_model.specs.Columns.{names_of}
use Rattle.opt_model.specs.Plans.{Plan}
use Rattle.opt_model.specs.Quantities.{quantities, over_months, sum_over}
use Rattle.opt_model.specs.Settings.{has_lots}
use Rattle.opt_model.specs.Tables.{Tables}
use Rattle.opt_model.specs.Texts.{month_of}
use Rattle.opt_model.specs.declared.quantity.Quantity.{Quantity}
use Rattle.opt_model.specs.declared.quantity.Quantity.TheVariants as quantity
use Rattle.opt_rows.specs.Costs.{mills_of}
use Rattle.opt_report.specs.declared.spending.CostPart.{CostPart}
use Rattle.opt_report.specs.declared.spending.CostPart.TheVariants.{Purchases, Fees, Shipping, Storage}
use Rattle.opt_report.specs.declared.spending.Spending.{Spending}

-- a quantity adds to this part of the cost
abbrev pub is_part : CostPart → Quantity → Bool
is_part Purchases (quantity.Buy o m) = true
is_part Fees (quantity.Order o m) = true
is_part Shipping (quantity.Ship a c m) = true
is_part Storage (quantity.Keep p c m) = true
is_part _ _ = false

-- what a quantity adds to a part of the cost of a month, in mills
abbrev pub spent_on : Tables → Plan → CostPart → ℕ → Quantity → ℤ
spent_on t plan part month q = if is_part part q && (month_of q == month) then mills_of t q *ℤ plan q else pos 0

-- what a part of the cost comes to in a month, shipments by the month in which they leave
abbrev pub spent : Tables → Plan → CostPart → ℕ → ℤ
spent t plan part month = sum_over (quantities t) (spent_on t plan part month)

-- the parts of the cost of a month
abbrev pub spending_in : Tables → Plan → ℕ → Spending
spending_in t plan month = record {
  bought = spent t plan Purchases month;
  fees = spent t plan Fees month;
  shipped = spent t plan Shipping month;
  stored = spent t plan Storage month;
}

-- what a part of the cost comes to in so many first months
abbrev pub spent_until : Tables → Plan → CostPart → ℕ → ℤ
spent_until t plan part months = sum_over (range_with_len 1 months) (spent t plan part)

-- the parts of the cost of so many first months
abbrev pub spending_until : Tables → Plan → ℕ → Spending
spending_until t plan months = record {
  bought = spent_until t plan Purchases months;
  fees = spent_until t plan Fees months;
  shipped = spent_until t plan Shipping months;
  stored = spent_until t plan Storage months;
}

-- two costs together, part by part
abbrev pub together : Spending → Spending → Spending
together a b = record {
  bought = a.bought +ℤ b.bought;
  fees = a.fees +ℤ b.fees;
  shipped = a.shipped +ℤ b.shipped;
  stored = a.stored +ℤ b.stored;
}

-- a bound of the size of what a part of the cost can come to in a month
abbrev pub MONTH_SIZE : ℕ
MONTH_SIZE = 2 ^ 103 * QUANTITY_LIMIT

-- the size of each part is at most this
pub record AreUpTo (most : ℕ) (s : Spending) : Type 0 where
  pub bought : unsigned_abs s.bought ≤ most
  pub fees : unsigned_abs s.fees ≤ most
  pub shipped : unsigned_abs s.shipped ≤ most
  pub stored : unsigned_abs s.stored ≤ most

-- the sum of the parts
abbrev pub total_of : Spending → ℤ
total_of s = s.bought +ℤ s.fees +ℤ s.shipped +ℤ s.stored

-- a record with these parts; fees came with format 3
abbrev pub spending_record : Tables → List ℕ → Spending → List ℕ
spending_record t month s = row_text default_writer
    (month ∷ signed_decimal s.bought ∷ cond (has_lots t.settings.format) (signed_decimal s.fees ∷ []) []
    ++ signed_decimal s.shipped ∷ signed_decimal s.stored ∷ signed_decimal (total_of s) ∷ [])

-- the names of the columns
abbrev pub cost_columns : Tables → List ℕ
cost_columns t = cond (has_lots t.settings.format) (codes "month,bought,fees,shipped,stored,total") (codes "month,bought,shipped,stored,total")

-- the report: the names of the columns, a record for each month, and one for all
abbrev pub costs_text : Tables → Plan → List ℕ
costs_text t plan =
    row_text default_writer (names_of (cost_columns t))
    ++ ((over_months t λ m. spending_record t (decimal m) (spending_in t plan m)) ++ spending_record t (codes "all") (spending_until t plan t.settings.months))
