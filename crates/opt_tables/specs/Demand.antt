-- What the records of the tables of the demand say: baskets, needs.
use Rattle.std.specs.Prelude.{ℕ, ◌==◌, nat_lt, pos, List, [], ◌∷◌, map, length, codes, Result, Ok, Err, if◌then◌else◌}
use Rattle.std.specs.List.{enumerate_from}
use Rattle.opt_base.specs.declared.refusal.File.TheVariants.{Baskets, Needs}
use Rattle.opt_base.specs.declared.refusal.Kind.TheVariants.{EmptyTable, TooMany}
use Rattle.opt_base.specs.declared.refusal.Refusal.{Refusal}
use Rattle.opt_base.specs.Answers.{◌>>=◌}
use Rattle.opt_model.specs.Settings.{Settings, has_baskets}
use Rattle.opt_model.specs.declared.limits.TheConstants.{BASKET_LIMIT}
use Rattle.opt_model.specs.declared.records.Basket.{Basket}
use Rattle.opt_model.specs.declared.records.Need.{Need}
use Rattle.opt_tables.specs.Keys.{Known, Names}
use Rattle.opt_tables.specs.Records.{Record, text_in, name_in, reference_in}
use Rattle.opt_base.specs.Refusals.{refusal_of_file}
use Rattle.opt_tables.specs.Lines.{Lines, lines_in, name_key, records_of}
use Rattle.opt_tables.specs.Diet.{Diet, need_in}
use Rattle.opt_tables.specs.declared.baskets.BasketLine.{BasketLine}
use Rattle.opt_tables.specs.declared.needs.NeedLine.{NeedLine}
use Rattle.opt_tables.specs.declared.nutrients.NutrientLine.{NutrientLine}

-- a basket says its name alone
abbrev pub basket_line_of : Record → Result BasketLine Refusal
basket_line_of row = name_in row 1 >>= λ name. Ok (record {})

-- the lines of baskets, of which there must be one and may not be more than the limit
abbrev pub with_few : Lines BasketLine → Result (Lines BasketLine) Refusal
with_few made =
    if length made.rows == 0 then Err (refusal_of_file Baskets EmptyTable)
    else (if nat_lt BASKET_LIMIT (length made.rows) then Err (refusal_of_file Baskets (TooMany (length made.rows))) else Ok made)

-- the lines of baskets.csv, or its first refusal; where a format has no baskets of its own, there are none
abbrev pub basket_lines_in : Settings → Result (List (List (List ℕ))) Refusal → Result (Lines BasketLine) Refusal
basket_lines_in settings grid =
    lines_in basket_line_of name_key Baskets grid >>= λ made. if has_baskets settings.format then with_few made else Ok made

-- a need's numbers
abbrev pub need_line_of : Record → Result NeedLine Refusal
need_line_of row = do
  basket ← name_in row 1
  nutrient ← name_in row 2
  need_in row 3

-- a need is known by its basket and its nutrient
abbrev pub need_key : Record → NeedLine → Known
need_key row line = Names (text_in row 1) (text_in row 2)

-- the tables of the demand as they are split into fields, each with its own refusal where it has one
pub record DemandGrids : Type 0 where
  pub baskets : Result (List (List (List ℕ))) Refusal
  pub needs : Result (List (List (List ℕ))) Refusal

-- what the tables of the demand say but for the records that they name
pub record Demand : Type 0 where
  pub baskets : Lines BasketLine
  pub needs : Lines NeedLine

-- what the tables of the demand say, or their first refusal
unfoldable pub demand_of : Settings → DemandGrids → Result Demand Refusal
demand_of settings grids = do
  baskets ← basket_lines_in settings grids.baskets
  needs ← lines_in need_line_of need_key Needs grids.needs
  Ok (record { baskets = baskets; needs = needs })

-- the records of the demand
pub record DemandTables : Type 0 where
  pub baskets : List Basket
  pub needs : List Need

-- the one basket of a format without baskets of its own
abbrev pub only_basket : Basket
only_basket = record { basket = codes "all" }

-- a need of these references
abbrev pub need_with : ℕ → ℕ → NeedLine → Need
need_with basket nutrient line =
    record { basket = basket; nutrient = nutrient; required = pos line.required; max_short = pos line.max_short; weight = pos line.weight }

-- what the one basket must give of the nutrients from this number on
abbrev pub needs_from : ℕ → List NutrientLine → List Need
needs_from number lines = map (λ numbered. need_with 0 numbered.0 numbered.1.need) (enumerate_from number lines)

-- the demand of a format without baskets of its own: one basket, which must give of each nutrient what its record says
abbrev pub only_demand : Diet → DemandTables
only_demand diet = record { baskets = only_basket ∷ []; needs = needs_from 0 diet.nutrients.lines }

-- a basket
abbrev pub basket_of : Record → BasketLine → Result Basket Refusal
basket_of row line = Ok (record { basket = text_in row 1 })

-- a need, whose basket and nutrient are among those that are known by these
abbrev pub need_by : List Known → List Known → Record → NeedLine → Result Need Refusal
need_by baskets nutrients row line = do
  basket ← reference_in row 1 baskets
  nutrient ← reference_in row 2 nutrients
  Ok (need_with basket nutrient line)

-- the same of the baskets and nutrients that are there
abbrev pub need_of : Diet → Demand → Record → NeedLine → Result Need Refusal
need_of diet demand = need_by demand.baskets.keys diet.nutrients.keys

-- the records of baskets and needs, with the numbers of those that they name
abbrev pub own_demand : Diet → Demand → Result DemandTables Refusal
own_demand diet demand = do
  baskets ← records_of basket_of demand.baskets
  needs ← records_of (need_of diet demand) demand.needs
  Ok (record { baskets = baskets; needs = needs })

-- the records of the demand under a format
unfoldable pub demand_records_of : Settings → Diet → Demand → Result DemandTables Refusal
demand_records_of settings diet demand = if has_baskets settings.format then own_demand diet demand else Ok (only_demand diet)
