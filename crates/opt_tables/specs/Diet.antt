-- What the records of the tables of the diet say: commodities, groups, nutrients, contents.
use Rattle.std.specs.Prelude.{ℕ, ◌+◌, ◌*◌, ◌/◌, ◌==◌, nat_lt, pos, List, length, Result, Ok, Err, if◌then◌else◌}
use Rattle.opt_base.specs.declared.refusal.File.TheVariants.{Commodities, Groups, Nutrients, Contents}
use Rattle.opt_base.specs.declared.refusal.Kind.TheVariants.{NoStepInRange, EmptyTable}
use Rattle.opt_base.specs.declared.refusal.Refusal.{Refusal}
use Rattle.opt_base.specs.Answers.{◌>>=◌}
use Rattle.opt_model.specs.declared.limits.TheConstants.{RATION_LIMIT, GROUP_LIMIT, NEED_LIMIT, WEIGHT_LIMIT, CONTENT_LIMIT}
use Rattle.opt_model.specs.Settings.{Settings, has_baskets}
use Rattle.opt_model.specs.declared.records.Commodity.{Commodity}
use Rattle.opt_model.specs.declared.records.Group.{Group}
use Rattle.opt_model.specs.declared.records.Nutrient.{Nutrient}
use Rattle.opt_model.specs.declared.records.Content.{Content}
use Rattle.opt_tables.specs.Keys.{Known, Names}
use Rattle.opt_tables.specs.Records.{Record, refused_at, text_in, name_in, optional_name_in, number_in, reference_in, optional_reference_in}
use Rattle.opt_base.specs.Refusals.{refusal_of_file}
use Rattle.opt_tables.specs.Lines.{Lines, lines_in, name_key}
use Rattle.opt_tables.specs.declared.commodities.CommodityLine.{CommodityLine}
use Rattle.opt_tables.specs.declared.groups.GroupLine.{GroupLine}
use Rattle.opt_tables.specs.declared.nutrients.NutrientLine.{NutrientLine}
use Rattle.opt_tables.specs.declared.needs.NeedLine.{NeedLine}
use Rattle.opt_tables.specs.declared.contents.ContentLine.{ContentLine}

-- a commodity's numbers: the greatest multiple of the step that is at most the greatest ration is at least the least ration
abbrev pub commodity_line_of : Record → Result CommodityLine Refusal
commodity_line_of row = do
  name ← name_in row 1
  group ← optional_name_in row 2
  min_g ← number_in row 3 0 RATION_LIMIT
  max_g ← number_in row 4 0 RATION_LIMIT
  step_g ← number_in row 5 1 RATION_LIMIT
  if nat_lt (max_g / step_g * step_g) min_g
      then Err (refused_at row 0 NoStepInRange)
      else Ok (record { min_g = min_g; max_g = max_g; step_g = step_g })

-- the lines of commodities, of which there must be one
abbrev pub with_some : Lines CommodityLine → Result (Lines CommodityLine) Refusal
with_some made = if length made.rows == 0 then Err (refusal_of_file Commodities EmptyTable) else Ok made

-- the lines of commodities.csv, or its first refusal
abbrev pub commodity_lines_in : Result (List (List (List ℕ))) Refusal → Result (Lines CommodityLine) Refusal
commodity_lines_in grid = lines_in commodity_line_of name_key Commodities grid >>= with_some

-- a group's numbers
abbrev pub group_line_of : Record → Result GroupLine Refusal
group_line_of row = do
  name ← name_in row 1
  min_g ← number_in row 2 0 GROUP_LIMIT
  max_g ← number_in row 3 0 GROUP_LIMIT
  Ok (record { min_g = min_g; max_g = max_g })

-- what must be given of a nutrient, in three columns from this one on
abbrev pub need_in : Record → ℕ → Result NeedLine Refusal
need_in row column = do
  required ← number_in row column 0 NEED_LIMIT
  max_short ← number_in row (column + 1) 0 NEED_LIMIT
  weight ← number_in row (column + 2) 0 WEIGHT_LIMIT
  Ok (record { required = required; max_short = max_short; weight = weight })

-- nothing must be given
abbrev pub no_need : NeedLine
no_need = record { required = 0; max_short = 0; weight = 0 }

-- what the one basket must give of a nutrient; a format with baskets of its own says that elsewhere
abbrev pub nutrient_line_of : Settings → Record → Result NutrientLine Refusal
nutrient_line_of settings row =
    name_in row 1 >>= λ name.
    if has_baskets settings.format then Ok (record { need = no_need }) else need_in row 2 >>= λ need. Ok (record { need = need })

-- a content's number
abbrev pub content_line_of : Record → Result ContentLine Refusal
content_line_of row = do
  commodity ← name_in row 1
  nutrient ← name_in row 2
  per_100g ← number_in row 3 0 CONTENT_LIMIT
  Ok (record { per_100g = per_100g })

-- a content is known by its commodity and its nutrient
abbrev pub content_key : Record → ContentLine → Known
content_key row line = Names (text_in row 1) (text_in row 2)

-- the tables of the diet as they are split into fields, each with its own refusal where it has one
pub record DietGrids : Type 0 where
  pub commodities : Result (List (List (List ℕ))) Refusal
  pub groups : Result (List (List (List ℕ))) Refusal
  pub nutrients : Result (List (List (List ℕ))) Refusal
  pub contents : Result (List (List (List ℕ))) Refusal

-- what the tables of the diet say but for the records that they name
pub record Diet : Type 0 where
  pub commodities : Lines CommodityLine
  pub groups : Lines GroupLine
  pub nutrients : Lines NutrientLine
  pub contents : Lines ContentLine

-- what the tables of the diet say, or their first refusal
unfoldable pub diet_of : Settings → DietGrids → Result Diet Refusal
diet_of settings grids = do
  commodities ← commodity_lines_in grids.commodities
  groups ← lines_in group_line_of name_key Groups grids.groups
  nutrients ← lines_in (nutrient_line_of settings) name_key Nutrients grids.nutrients
  contents ← lines_in content_line_of content_key Contents grids.contents
  Ok (record { commodities = commodities; groups = groups; nutrients = nutrients; contents = contents })

-- the records of the diet
pub record DietTables : Type 0 where
  pub commodities : List Commodity
  pub groups : List Group
  pub nutrients : List Nutrient
  pub contents : List Content

-- a commodity, whose group is one of those that are known by these
abbrev pub commodity_by : List Known → Record → CommodityLine → Result Commodity Refusal
commodity_by groups row line =
    optional_reference_in row 2 groups >>= λ group.
    Ok (record { commodity = text_in row 1; group = group; min_g = pos line.min_g; max_g = pos line.max_g; step_g = pos line.step_g })

-- the same of the groups that are there
abbrev pub commodity_of : Diet → Record → CommodityLine → Result Commodity Refusal
commodity_of diet = commodity_by diet.groups.keys

-- a group
abbrev pub group_of : Record → GroupLine → Result Group Refusal
group_of row line = Ok (record { group = text_in row 1; min_g = pos line.min_g; max_g = pos line.max_g })

-- a nutrient
abbrev pub nutrient_of : Record → NutrientLine → Result Nutrient Refusal
nutrient_of row line = Ok (record { nutrient = text_in row 1 })

-- a content, whose commodity and nutrient are among those that are known by these
abbrev pub content_by : List Known → List Known → Record → ContentLine → Result Content Refusal
content_by commodities nutrients row line = do
  commodity ← reference_in row 1 commodities
  nutrient ← reference_in row 2 nutrients
  Ok (record { commodity = commodity; nutrient = nutrient; per_100g = pos line.per_100g })

-- the same of the commodities and nutrients that are there
abbrev pub content_of : Diet → Record → ContentLine → Result Content Refusal
content_of diet = content_by diet.commodities.keys diet.nutrients.keys
