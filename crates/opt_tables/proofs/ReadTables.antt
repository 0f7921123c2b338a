-- The records of the tables that are read, table by table.
use Rattle.std.proofs.Common.{◌≡◌, ◌≤◌, ℕ, ◌+◌, ◌^◌, Bool, true, false, cond, not, List, [], length, Result, Ok, refl, sym, ap, ◌∙◌, subst, arith, lit≤}
use Rattle.std.specs.Prelude.{All, ◌&&◌, ◌||◌, ◌==◌, if◌then◌else◌}
use Rattle.std.proofs.lemmas.Bool.{both_ways}
use Rattle.std.proofs.lemmas.Str.{IsUtf8-nil}
use Rattle.opt_base.specs.declared.refusal.File.{File}
use Rattle.opt_base.specs.declared.refusal.File.TheVariants.{Commodities, Groups, Nutrients, Contents, Places, Offers, Arcs, Persons, Stock, Baskets, Needs}
use Rattle.opt_base.specs.declared.refusal.Kind.TheVariants.{EmptyTable}
use Rattle.opt_base.specs.declared.refusal.Refusal.{Refusal}
use Rattle.opt_base.specs.Answers.{◌>>=◌}
use Rattle.opt_base.specs.Refusals.{refusal_of_file}
use Rattle.opt_base.proofs.Made.{bind_ok, unless_ok}
use Rattle.opt_model.specs.Columns.{columns_of}
use Rattle.opt_model.specs.Settings.{Settings as SettingsOf, has_baskets}
use Rattle.opt_read.specs.Grid.{grid_of}
use Rattle.opt_read.proofs.GridLaws.{grid-few, grid-stripped, grid-text}
use Rattle.opt_tables.specs.Files.{ModelFiles, bytes_of, is_required}
use Rattle.opt_tables.specs.Grids.{is_table_of, rows_in, diet_grids_of, network_grids_of, demand_grids_of}
use Rattle.opt_tables.specs.Lines.{Lines, lines_of, lines_in, name_key, records_of}
use Rattle.opt_tables.specs.Diet.{DietTables, commodity_line_of, commodity_lines_in, with_some, group_line_of, nutrient_line_of, content_line_of, content_key, diet_of, commodity_of, group_of, nutrient_of, content_of}
use Rattle.opt_tables.specs.Network.{NetworkTables, place_line_of, offer_line_of, arc_line_of, persons_line_of, persons_key, stock_line_of, stock_key, network_of, place_of, offer_of, arc_of, persons_of, stock_of}
use Rattle.opt_tables.specs.Demand.{DemandTables, basket_line_of, basket_lines_in, need_line_of, need_key, demand_of, only_demand, basket_of, need_of, own_demand, demand_records_of}
use Rattle.opt_tables.specs.Model.{diet_records_of, network_records_of}
use Rattle.opt_tables.specs.declared.commodities.CommodityLine.{CommodityLine}
use Rattle.opt_tables.specs.declared.nutrients.NutrientLine.{NutrientLine}
use Rattle.opt_tables.specs.declared.baskets.BasketLine.{BasketLine}
use Rattle.opt_tables.specs.declared.needs.NeedLine.{NeedLine}
use Rattle.opt_tables.specs.Diet.{Diet}
use Rattle.opt_tables.specs.Network.{Network}
use Rattle.opt_tables.specs.Demand.{Demand}
use Rattle.opt_tables.proofs.Cells.{at_least_one}
use Rattle.opt_tables.proofs.TableFacts.{AreCleanRows, AreClean, lines_are, IsTable, table_is, ok_same}
use Rattle.opt_tables.proofs.DemandFacts.{IsNeedLine, nutrient_needs_are, IsFew, AreBaskets, basket_lines_are}

-- a file of few bytes has few records, and its fields are clean
pub clean_in : (files : ModelFiles) (format : ℕ) (file : File) → length (bytes_of files file) ≤ 2 ^ 24 → AreClean (rows_in files format file)
clean_in files format file small rows e = by (not (is_table_of format file) || (not (is_required file) && (length (bytes_of files file) == 0))) e
  where
    no_rows : AreCleanRows []
    no_rows = record { few = lit≤ tt; clean = λ index place. record { text = IsUtf8-nil; stripped = refl } }

    by : (absent : Bool) → (if absent then Ok [] else grid_of file (bytes_of files file) (columns_of file format)) ≡ Ok rows → AreCleanRows rows
    by true f = let none : [] ≡ rows = cc in subst AreCleanRows none no_rows
    by false f = record {
      few = omega (arith, grid-few file (bytes_of files file) (columns_of file format) rows f, small);
      clean = λ index place. record {
        text = grid-text file (bytes_of files file) (columns_of file format) rows f index place;
        stripped = grid-stripped file (bytes_of files file) (columns_of file format) rows f index place;
      };
    }

-- the records of the diet
pub record IsDiet (settings : SettingsOf) (diet : Diet) (records : DietTables) : Type 0 where
  pub commodities : IsTable commodity_line_of name_key Commodities (commodity_of diet) diet.commodities records.commodities
  pub some : 1 ≤ length records.commodities
  pub groups : IsTable group_line_of name_key Groups group_of diet.groups records.groups
  pub nutrients : IsTable (nutrient_line_of settings) name_key Nutrients nutrient_of diet.nutrients records.nutrients
  pub nutrient_needs : All (λ (line : NutrientLine). IsNeedLine line.need) diet.nutrients.lines
  pub nutrient_lines : length diet.nutrients.lines ≡ length records.nutrients
  pub contents : IsTable content_line_of content_key Contents (content_of diet) diet.contents records.contents

-- the lines of commodities, of which there is one
record AreCommodities (grid : Result (List (List (List ℕ))) Refusal) (all : Lines CommodityLine) : Type 0 where
  lines : lines_in commodity_line_of name_key Commodities grid ≡ Ok all
  some : 1 ≤ length all.rows

commodity_lines_are : (grid : Result (List (List (List ℕ))) Refusal) (all : Lines CommodityLine) → commodity_lines_in grid ≡ Ok all → AreCommodities grid all
commodity_lines_are grid all e =
    let made = bind_ok (lines_in commodity_line_of name_key Commodities grid) with_some all e in
    let some = unless_ok (length made.0.rows == 0) (Ok made.0) (refusal_of_file Commodities EmptyTable) all made.2 in
    let same : made.0 ≡ all = cc (some.1) in
    subst (AreCommodities grid) same (record { lines = made.1; some = at_least_one (length made.0.rows) some.0 })

pub diet_is : (files : ModelFiles) (settings : SettingsOf) (diet : Diet) (records : DietTables) → ((file : File) → AreClean (rows_in files settings.format file))
    → diet_of settings (diet_grids_of files settings.format) ≡ Ok diet → diet_records_of diet ≡ Ok records → IsDiet settings diet records
unfolding diet_of diet_records_of
diet_is files settings diet records clean e f =
    let grid : File → Result (List (List (List ℕ))) Refusal = rows_in files settings.format in
    let commodities = bind_ok (commodity_lines_in (grid Commodities)) _ diet e in
    let groups = bind_ok (lines_in group_line_of name_key Groups (grid Groups)) _ diet commodities.2 in
    let nutrients = bind_ok (lines_in (nutrient_line_of settings) name_key Nutrients (grid Nutrients)) _ diet groups.2 in
    let contents = bind_ok (lines_in content_line_of content_key Contents (grid Contents)) _ diet nutrients.2 in
    let lined : Diet = record { commodities = commodities.0; groups = groups.0; nutrients = nutrients.0; contents = contents.0 } in
    let same_lines : lined ≡ diet = ok_same lined diet contents.2 in
    let g : diet_records_of lined ≡ Ok records = ap diet_records_of same_lines ∙ f in
    let commodity_records = bind_ok (records_of (commodity_of lined) lined.commodities) _ records g in
    let group_records = bind_ok (records_of group_of lined.groups) _ records commodity_records.2 in
    let nutrient_records = bind_ok (records_of nutrient_of lined.nutrients) _ records group_records.2 in
    let content_records = bind_ok (records_of (content_of lined) lined.contents) _ records nutrient_records.2 in
    let made : DietTables = record { commodities = commodity_records.0; groups = group_records.0; nutrients = nutrient_records.0; contents = content_records.0 } in
    let same_records : made ≡ records = ok_same made records content_records.2 in
    let are = commodity_lines_are (grid Commodities) commodities.0 commodities.1 in
    let commodity_table = table_is commodity_line_of name_key Commodities (commodity_of lined) lined.commodities (grid Commodities) commodity_records.0 (clean Commodities) are.lines commodity_records.1 in
    let nutrient_table = table_is (nutrient_line_of settings) name_key Nutrients nutrient_of lined.nutrients (grid Nutrients) nutrient_records.0 (clean Nutrients) nutrients.1 nutrient_records.1 in
    let nutrient_rows = bind_ok (grid Nutrients) (lines_of (nutrient_line_of settings) name_key Nutrients) nutrients.0 nutrients.1 in
    let nutrient_lines = lines_are (nutrient_line_of settings) name_key Nutrients nutrient_rows.0 nutrients.0 nutrient_rows.2 in
    subst (λ (d : Diet). IsDiet settings d records) same_lines (subst (IsDiet settings lined) same_records (record {
      commodities = commodity_table;
      some = omega (arith, are.some, commodity_table.rows);
      groups = table_is group_line_of name_key Groups group_of lined.groups (grid Groups) group_records.0 (clean Groups) groups.1 group_records.1;
      nutrients = nutrient_table;
      nutrient_needs = nutrient_needs_are settings nutrient_rows.0 nutrients.0 nutrient_lines;
      nutrient_lines = nutrient_lines.lines ∙ (sym nutrient_lines.keys ∙ sym nutrient_table.many);
      contents = table_is content_line_of content_key Contents (content_of lined) lined.contents (grid Contents) content_records.0 (clean Contents) contents.1 content_records.1;
    }))

-- the records of the network
pub record IsNetwork (settings : SettingsOf) (diet : Diet) (network : Network) (demand : Demand) (records : NetworkTables) : Type 0 where
  pub places : IsTable place_line_of name_key Places place_of network.places records.places
  pub offers : IsTable (offer_line_of settings) name_key Offers (offer_of diet network) network.offers records.offers
  pub arcs : IsTable arc_line_of name_key Arcs (arc_of network) network.arcs records.arcs
  pub persons : IsTable (persons_line_of settings) (persons_key settings) Persons (persons_of settings network demand) network.persons records.persons
  pub stock : IsTable (stock_line_of settings) stock_key Stock (stock_of diet network) network.stock records.stock

pub network_is : (files : ModelFiles) (settings : SettingsOf) (diet : Diet) (network : Network) (demand : Demand) (records : NetworkTables) → ((file : File) → AreClean (rows_in files settings.format file))
    → network_of settings (network_grids_of files settings.format) ≡ Ok network → network_records_of settings diet network demand ≡ Ok records → IsNetwork settings diet network demand records
unfolding network_of network_records_of
network_is files settings diet network demand records clean e f =
    let grid : File → Result (List (List (List ℕ))) Refusal = rows_in files settings.format in
    let places = bind_ok (lines_in place_line_of name_key Places (grid Places)) _ network e in
    let offers = bind_ok (lines_in (offer_line_of settings) name_key Offers (grid Offers)) _ network places.2 in
    let arcs = bind_ok (lines_in arc_line_of name_key Arcs (grid Arcs)) _ network offers.2 in
    let persons = bind_ok (lines_in (persons_line_of settings) (persons_key settings) Persons (grid Persons)) _ network arcs.2 in
    let stock = bind_ok (lines_in (stock_line_of settings) stock_key Stock (grid Stock)) _ network persons.2 in
    let lined : Network = record { places = places.0; offers = offers.0; arcs = arcs.0; persons = persons.0; stock = stock.0 } in
    let same_lines : lined ≡ network = ok_same lined network stock.2 in
    let g : network_records_of settings diet lined demand ≡ Ok records = ap (λ n. network_records_of settings diet n demand) same_lines ∙ f in
    let place_records = bind_ok (records_of place_of lined.places) _ records g in
    let offer_records = bind_ok (records_of (offer_of diet lined) lined.offers) _ records place_records.2 in
    let arc_records = bind_ok (records_of (arc_of lined) lined.arcs) _ records offer_records.2 in
    let persons_records = bind_ok (records_of (persons_of settings lined demand) lined.persons) _ records arc_records.2 in
    let stock_records = bind_ok (records_of (stock_of diet lined) lined.stock) _ records persons_records.2 in
    let made : NetworkTables = record { places = place_records.0; offers = offer_records.0; arcs = arc_records.0; persons = persons_records.0; stock = stock_records.0 } in
    let same_records : made ≡ records = ok_same made records stock_records.2 in
    subst (λ (n : Network). IsNetwork settings diet n demand records) same_lines (subst (IsNetwork settings diet lined demand) same_records (record {
      places = table_is place_line_of name_key Places place_of lined.places (grid Places) place_records.0 (clean Places) places.1 place_records.1;
      offers = table_is (offer_line_of settings) name_key Offers (offer_of diet lined) lined.offers (grid Offers) offer_records.0 (clean Offers) offers.1 offer_records.1;
      arcs = table_is arc_line_of name_key Arcs (arc_of lined) lined.arcs (grid Arcs) arc_records.0 (clean Arcs) arcs.1 arc_records.1;
      persons = table_is (persons_line_of settings) (persons_key settings) Persons (persons_of settings lined demand) lined.persons (grid Persons) persons_records.0 (clean Persons) persons.1 persons_records.1;
      stock = table_is (stock_line_of settings) stock_key Stock (stock_of diet lined) lined.stock (grid Stock) stock_records.0 (clean Stock) stock.1 stock_records.1;
    }))

-- the records of the demand of a format with baskets of its own
pub record IsOwnDemand (diet : Diet) (demand : Demand) (records : DemandTables) : Type 0 where
  pub baskets : IsTable basket_line_of name_key Baskets basket_of demand.baskets records.baskets
  pub few : IsFew demand.baskets
  pub needs : IsTable need_line_of need_key Needs (need_of diet demand) demand.needs records.needs

-- the records of the demand
pub record IsDemand (settings : SettingsOf) (diet : Diet) (demand : Demand) (records : DemandTables) : Type 0 where
  pub own : has_baskets settings.format ≡ true → IsOwnDemand diet demand records
  pub only : has_baskets settings.format ≡ false → only_demand diet ≡ records

pub demand_is : (files : ModelFiles) (settings : SettingsOf) (diet : Diet) (demand : Demand) (records : DemandTables) → ((file : File) → AreClean (rows_in files settings.format file))
    → demand_of settings (demand_grids_of files settings.format) ≡ Ok demand → demand_records_of settings diet demand ≡ Ok records → IsDemand settings diet demand records
unfolding demand_of demand_records_of
demand_is files settings diet demand records clean e f =
    let baskets = bind_ok (basket_lines_in settings (grid Baskets)) _ demand e in
    let needs = bind_ok (lines_in need_line_of need_key Needs (grid Needs)) _ demand baskets.2 in
    let lined : Demand = record { baskets = baskets.0; needs = needs.0 } in
    let same_lines : lined ≡ demand = ok_same lined demand needs.2 in
    let are : AreBaskets settings (grid Baskets) baskets.0 = basket_lines_are settings (grid Baskets) baskets.0 baskets.1 in
    let g : demand_records_of settings diet lined ≡ Ok records = ap (demand_records_of settings diet) same_lines ∙ f in
    subst (λ (d : Demand). IsDemand settings diet d records) same_lines (by baskets.0 needs.0 are needs.1 (has_baskets settings.format) refl g)
  where
    grid : File → Result (List (List (List ℕ))) Refusal
    grid file = rows_in files settings.format file

    own_is : (baskets : Lines BasketLine) (needs : Lines NeedLine) → AreBaskets settings (grid Baskets) baskets → lines_in need_line_of need_key Needs (grid Needs) ≡ Ok needs → has_baskets settings.format ≡ true
        → own_demand diet (record { baskets = baskets; needs = needs }) ≡ Ok records → IsOwnDemand diet (record { baskets = baskets; needs = needs }) records
    own_is baskets needs are read own g =
        let lined : Demand = record { baskets = baskets; needs = needs } in
        let basket_records = bind_ok (records_of basket_of baskets) _ records g in
        let need_records = bind_ok (records_of (need_of diet lined) needs) _ records basket_records.2 in
        let made : DemandTables = record { baskets = basket_records.0; needs = need_records.0 } in
        let same : made ≡ records = ok_same made records need_records.2 in
        subst (IsOwnDemand diet lined) same (record {
          baskets = table_is basket_line_of name_key Baskets basket_of baskets (grid Baskets) basket_records.0 (clean Baskets) are.lines basket_records.1;
          few = are.own own;
          needs = table_is need_line_of need_key Needs (need_of diet lined) needs (grid Needs) need_records.0 (clean Needs) read need_records.1;
        })

    by : (baskets : Lines BasketLine) (needs : Lines NeedLine) → AreBaskets settings (grid Baskets) baskets → lines_in need_line_of need_key Needs (grid Needs) ≡ Ok needs
        → (own : Bool) → has_baskets settings.format ≡ own → cond own (own_demand diet (record { baskets = baskets; needs = needs })) (Ok (only_demand diet)) ≡ Ok records
        → IsDemand settings diet (record { baskets = baskets; needs = needs }) records
    by baskets needs are read true own g = record { own = λ some. own_is baskets needs are read some g; only = λ none. absurd (both_ways (has_baskets settings.format) none own) }
    by baskets needs are read false own g = record { own = λ some. absurd (both_ways (has_baskets settings.format) own some); only = λ none. ok_same (only_demand diet) records g }
