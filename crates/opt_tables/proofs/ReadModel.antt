-- What holds of every model that is read.
use Rattle.std.proofs.Common.{◌≡◌, ◌≢◌, ◌≤◌, ℕ, suc, ◌<◌, ◌^◌, true, false, List, [], ◌∷◌, length, get_or, Option, Some, None, option_map, codes, Result, Ok, refl, sym, ap, ◌∙◌, subst, arith, inl, inr, lit≤}
use Rattle.std.specs.Prelude.{All, count_by, bytes_eq, IfSome, ◌&&◌, ◌==◌, slice_get}
use Rattle.std.proofs.lemmas.Bool.{and_parts, eqb-true, cases_Bool}
use Rattle.std.proofs.lemmas.List.Elements.{All-nil, All-cons}
use Rattle.std.proofs.lemmas.Option.{slice_get_cases}
use lib.Utf8.{encode}
use Rattle.opt_base.specs.declared.refusal.File.{File}
use Rattle.opt_base.specs.declared.refusal.File.TheVariants.{Settings, Commodities, Groups, Nutrients, Contents, Places, Offers, Arcs, Persons, Stock, Baskets, Needs}
use Rattle.opt_base.specs.Answers.{◌>>=◌}
use Rattle.opt_base.proofs.Made.{bind_ok}
use Rattle.opt_model.specs.Settings.{Settings as SettingsOf, has_baskets, has_lots}
use Rattle.opt_model.specs.Tables.{Tables}
use Rattle.opt_model.specs.declared.limits.TheConstants.{BASKET_LIMIT}
use Rattle.opt_model.specs.declared.records.Basket.{Basket}
use Rattle.opt_model.specs.declared.records.Commodity.{Commodity}
use Rattle.opt_model.specs.declared.records.Group.{Group}
use Rattle.opt_model.specs.declared.records.Nutrient.{Nutrient}
use Rattle.opt_model.specs.declared.records.Offer.{Offer}
use Rattle.opt_model.specs.declared.records.Arc.{Arc}
use Rattle.opt_model.specs.declared.records.Need.{Need}
use Rattle.opt_model.specs.declared.records.PlaceKind.{PlaceKind}
use Rattle.opt_model.specs.declared.records.Place.{Place}
use Rattle.opt_read.specs.Settings.{settings_of}
use Rattle.opt_read.specs.Setup.{IsSetup}
use Rattle.opt_read.proofs.SettingLaws.{settings-kept}
use Rattle.opt_tables.specs.Files.{ModelFiles, bytes_of, all_checked}
use Rattle.opt_tables.specs.Grids.{rows_in, diet_grids_of, network_grids_of, demand_grids_of}
use Rattle.opt_tables.specs.Keys.{Name}
use Rattle.opt_tables.specs.Lines.{name_key}
use Rattle.opt_tables.specs.Diet.{DietTables, commodity_line_of, group_line_of, nutrient_line_of, content_line_of, content_key, diet_of, commodity_of, group_of, nutrient_of, content_of}
use Rattle.opt_tables.specs.Network.{NetworkTables, place_line_of, offer_line_of, arc_line_of, persons_line_of, persons_key, stock_line_of, stock_key, network_of, place_of, offer_of, arc_of, persons_of, stock_of}
use Rattle.opt_tables.specs.Demand.{DemandTables, basket_line_of, need_line_of, need_key, demand_of, only_basket, needs_from, only_demand, basket_of, need_of, demand_records_of}
use Rattle.opt_tables.specs.Model.{diet_records_of, network_records_of, tables_with, linked_of, tables_in, tables_from, tables_of}
use Rattle.opt_tables.specs.Facts.{IsCleanName, IsCommodity, IsGrouped, IsGroup, IsContent, IsPlace, IsOffer, IsArc, IsPersons, IsStock, IsNeed, IsNeedOf, HasNoLot, IsModel}
use Rattle.opt_tables.specs.Diet.{Diet}
use Rattle.opt_tables.specs.Network.{Network}
use Rattle.opt_tables.specs.Demand.{Demand}
use Rattle.opt_tables.proofs.Counts.{one_passes}
use Rattle.opt_tables.proofs.Sizes.{checked_files_small}
use Rattle.opt_tables.proofs.TableFacts.{AreClean, IsTable, all_made, names_once, ok_same}
use Rattle.opt_tables.proofs.DietFacts.{commodity_facts, group_facts, nutrient_known, nutrient_name, content_facts, content_once}
use Rattle.opt_tables.proofs.NetworkFacts.{place_facts, line_kind, offer_facts, arc_facts}
use Rattle.opt_tables.proofs.MonthFacts.{IsBasketOf, persons_facts, persons_once, stock_facts, stock_once}
use Rattle.opt_tables.proofs.DemandFacts.{basket_known, basket_name, need_facts, need_once, AreNeeds, needs_are}
use Rattle.opt_tables.proofs.ReadTables.{clean_in, IsDiet, diet_is, IsNetwork, network_is, IsOwnDemand, IsDemand, demand_is}

-- what holds of the demand
record DemandHolds (settings : SettingsOf) (nutrients : ℕ) (records : DemandTables) : Type 0 where
  some : 1 ≤ length records.baskets
  few : length records.baskets ≤ BASKET_LIMIT
  names : All (λ (r : Basket). IsCleanName r.basket) records.baskets
  needs : All IsNeed records.needs
  needs_in : All (λ (r : Need). (r.basket < length records.baskets) × (r.nutrient < nutrients)) records.needs
  short : length records.needs ≤ 2 ^ 24
  basket_once : (name : List ℕ) → count_by (λ r. bytes_eq r.basket name) records.baskets ≤ 1
  need_once : (basket nutrient : ℕ) → count_by (λ r. (r.basket == basket) && (r.nutrient == nutrient)) records.needs ≤ 1
  only : has_baskets settings.format ≡ false → records.baskets ≡ only_basket ∷ []
  a_need_each : has_baskets settings.format ≡ false → length records.needs ≡ nutrients
  in_order : has_baskets settings.format ≡ false → (number : ℕ) (d : Need) → number < length records.needs → IsNeedOf number (get_or records.needs number d)

-- the name of the one basket
only_name : IsCleanName only_basket.basket
unfolding encode
only_name = record { text = (codes "all", (refl, refl)); stripped = refl; some = lit≤ tt; short = lit≤ tt }

-- the needs of one basket are for different nutrients
ordered_once : (needs : List Need) → ((number : ℕ) (d : Need) → number < length needs → IsNeedOf number (get_or needs number d))
    → (basket nutrient : ℕ) → count_by (λ r. (r.basket == basket) && (r.nutrient == nutrient)) needs ≤ 1
ordered_once needs ordered basket nutrient =
    one_passes (λ r. (r.basket == basket) && (r.nutrient == nutrient)) needs (λ i j d before within first second.
    let r : Need = get_or needs i d in
    let s : Need = get_or needs j d in
    let a : r.nutrient ≡ nutrient = eqb-true r.nutrient nutrient (and_parts (r.basket == basket) (r.nutrient == nutrient) first).1 in
    let b : s.nutrient ≡ nutrient = eqb-true s.nutrient nutrient (and_parts (s.basket == basket) (s.nutrient == nutrient) second).1 in
    let m : r.nutrient ≡ i = (ordered i d (omega arith)).nutrient in
    let n : s.nutrient ≡ j = (ordered j d within).nutrient in
    omega (arith, a, b, m, n))

only_holds : (settings : SettingsOf) (diet : Diet) (records : DietTables) → IsDiet settings diet records → has_baskets settings.format ≡ false → DemandHolds settings (length records.nutrients) (only_demand diet)
only_holds settings diet records is none =
    let are : AreNeeds (needs_from 0 diet.nutrients.lines) diet.nutrients.lines = needs_are diet.nutrients.lines is.nutrient_needs in
    let many : length (needs_from 0 diet.nutrients.lines) ≡ length records.nutrients = are.many ∙ is.nutrient_lines in
    record {
      some = lit≤ tt;
      few = lit≤ tt;
      names = All-cons (λ (r : Basket). IsCleanName r.basket) only_basket [] only_name (All-nil (λ (r : Basket). IsCleanName r.basket));
      needs = are.each;
      needs_in = λ k d within. let of = are.in_order k d within in (omega (arith, of.basket), omega (arith, of.nutrient, many));
      short = omega (arith, many, is.nutrients.few);
      basket_once = λ name. one_passes (λ r. bytes_eq r.basket name) (only_basket ∷ []) (λ i j d before within first second. omega arith);
      need_once = ordered_once (needs_from 0 diet.nutrients.lines) are.in_order;
      only = λ _. refl;
      a_need_each = λ _. many;
      in_order = λ _. are.in_order;
    }

own_holds : (settings : SettingsOf) (diet : Diet) (demand : Demand) (records : DietTables) (demands : DemandTables) → IsDiet settings diet records → IsOwnDemand diet demand demands
    → has_baskets settings.format ≡ true → DemandHolds settings (length records.nutrients) demands
own_holds settings diet demand records demands is own has = record {
  some = omega (arith, own.few.some, own.baskets.rows);
  few = omega (arith, own.few.few, own.baskets.rows);
  names = all_made basket_line_of name_key Baskets basket_of demand.baskets (λ (r : Basket). IsCleanName r.basket) demands.baskets own.baskets (basket_name demand);
  needs = all_made need_line_of need_key Needs (need_of diet demand) demand.needs IsNeed demands.needs own.needs (λ k key r of. (need_facts diet demand k key r of).numbers);
  needs_in = all_made need_line_of need_key Needs (need_of diet demand) demand.needs (λ (r : Need). (r.basket < length demands.baskets) × (r.nutrient < length records.nutrients)) demands.needs own.needs
      (λ k key r of.
      let facts = need_facts diet demand k key r of in
      (omega (arith, facts.basket.there, own.baskets.many), omega (arith, facts.nutrient.there, is.nutrients.many)));
  short = own.needs.few;
  basket_once = names_once basket_line_of name_key Baskets basket_of demand.baskets (λ r. r.basket) demands.baskets own.baskets (basket_known demand);
  need_once = need_once diet demand demands.needs own.needs;
  only = λ lacks. absurd (no_and_yes lacks);
  a_need_each = λ lacks. absurd (no_and_yes lacks);
  in_order = λ lacks. absurd (no_and_yes lacks);
}
  where
    no_and_yes : has_baskets settings.format ≡ false → ⊥
    no_and_yes lacks = let both : true ≡ false = sym has ∙ lacks in cc

demand_holds : (settings : SettingsOf) (diet : Diet) (demand : Demand) (records : DietTables) (demands : DemandTables) → IsDiet settings diet records → IsDemand settings diet demand demands
    → DemandHolds settings (length records.nutrients) demands
demand_holds settings diet demand records demands is are = elim (cases_Bool (has_baskets settings.format)) [
  | inl has ↦ own_holds settings diet demand records demands is (are.own has) has
  | inr lacks ↦ subst (DemandHolds settings (length records.nutrients)) (are.only lacks) (only_holds settings diet records is lacks)
]

-- the basket of a record of persons is there
basket_there : (settings : SettingsOf) (diet : Diet) (demand : Demand) (demands : DemandTables) (name : List ℕ) (basket : ℕ) → IsDemand settings diet demand demands → 1 ≤ length demands.baskets
    → IsBasketOf settings demand name basket → basket < length demands.baskets
basket_there settings diet demand demands name basket are some is = elim (cases_Bool (has_baskets settings.format)) [
  | inl has ↦ omega (arith, (is.own has).there, (are.own has).baskets.many)
  | inr lacks ↦ omega (arith, is.only lacks)
]

-- the kind of a place is that of its line
kind_is : (network : Network) (places : List Place) (place : ℕ) → IsTable place_line_of name_key Places place_of network.places places → place < length places
    → option_map (λ r. r.kind) (slice_get places place) ≡ line_kind network place
kind_is network places place is there = elim ((slice_get_cases places place).1) [
  | inl found ↦
      let r : Place = found.0 in
      let at : get_or places place r ≡ r = found.3 in
      let made = is.at place (Name []) r there in
      let facts = place_facts network place (get_or network.places.keys place (Name [])) (get_or places place r) made in
      ap (option_map (λ (p : Place). p.kind)) found.2 ∙ (ap (λ (p : Place). Some p.kind) (sym at) ∙ sym facts.kind)
  | inr past ↦ absurd (let far : length places ≤ place = past.0 in omega arith)
]

-- the tables of the records that are read
module _ (settings : SettingsOf) (diet : Diet) (network : Network) (demand : Demand) (diets : DietTables) (networks : NetworkTables) (demands : DemandTables) where
  model_is : IsSetup settings → IsDiet settings diet diets → IsNetwork settings diet network demand networks → IsDemand settings diet demand demands → IsModel (tables_with settings diets networks demands)
  model_is setup of_diet of_network of_demand =
      let holds : DemandHolds settings (length diets.nutrients) demands = demand_holds settings diet demand diets demands of_diet of_demand in
      let t : Tables = tables_with settings diets networks demands in
      let commodities = of_diet.commodities in
      let places = of_network.places in
      record {
        settings = setup;
        some_commodity = of_diet.some;
        some_basket = holds.some;
        few_baskets = holds.few;
        short = record {
          commodities = commodities.few;
          groups = of_diet.groups.few;
          nutrients = of_diet.nutrients.few;
          contents = of_diet.contents.few;
          places = places.few;
          offers = of_network.offers.few;
          arcs = of_network.arcs.few;
          persons = of_network.persons.few;
          stock = of_network.stock.few;
          needs = holds.short;
        };
        names = record {
          baskets = holds.names;
          commodities = all_made commodity_line_of name_key Commodities (commodity_of diet) diet.commodities (λ (r : Commodity). IsCleanName r.commodity) diets.commodities commodities (λ k key r of. (commodity_facts diet k key r of).name);
          groups = all_made group_line_of name_key Groups group_of diet.groups (λ (r : Group). IsCleanName r.group) diets.groups of_diet.groups (λ k key r of. (group_facts diet k key r of).name);
          nutrients = all_made (nutrient_line_of settings) name_key Nutrients nutrient_of diet.nutrients (λ (r : Nutrient). IsCleanName r.nutrient) diets.nutrients of_diet.nutrients (nutrient_name settings diet);
          offers = all_made (offer_line_of settings) name_key Offers (offer_of diet network) network.offers (λ (r : Offer). IsCleanName r.offer) networks.offers of_network.offers (λ k key r of. (offer_facts settings diet network k key r of).name);
          arcs = all_made arc_line_of name_key Arcs (arc_of network) network.arcs (λ (r : Arc). IsCleanName r.arc) networks.arcs of_network.arcs (λ k key r of. (arc_facts network k key r of).name);
          places = all_made place_line_of name_key Places place_of network.places (λ (r : Place). IsCleanName r.place) networks.places places (λ k key r of. (place_facts network k key r of).name);
        };
        commodities = all_made commodity_line_of name_key Commodities (commodity_of diet) diet.commodities IsCommodity diets.commodities commodities (λ k key r of. (commodity_facts diet k key r of).numbers);
        grouped = all_made commodity_line_of name_key Commodities (commodity_of diet) diet.commodities (IsGrouped t) diets.commodities commodities (λ k key r of. within_groups r.group (commodity_facts diet k key r of).group);
        groups = all_made group_line_of name_key Groups group_of diet.groups IsGroup diets.groups of_diet.groups (λ k key r of. (group_facts diet k key r of).numbers);
        contents = all_made content_line_of content_key Contents (content_of diet) diet.contents (IsContent t) diets.contents of_diet.contents (λ k key r of.
            let facts = content_facts diet k key r of in
            record { commodity = omega (arith, facts.commodity.there, commodities.many); nutrient = omega (arith, facts.nutrient.there, of_diet.nutrients.many); per_100g = facts.per_100g });
        places = all_made place_line_of name_key Places place_of network.places IsPlace networks.places places (λ k key r of. (place_facts network k key r of).numbers);
        offers = all_made (offer_line_of settings) name_key Offers (offer_of diet network) network.offers (IsOffer t) networks.offers of_network.offers (λ k key r of.
            let facts = offer_facts settings diet network k key r of in
            let there : r.place < length networks.places = omega (arith, facts.place, places.many) in
            record {
              place = there;
              kind = kind_is network networks.places r.place places there ∙ facts.kind;
              commodity = omega (arith, facts.commodity, commodities.many);
              price = facts.price;
              max_kg = facts.max_kg;
              first = (facts.first.above, facts.first.below);
              last = (facts.last.above, facts.last.below);
              fee = facts.fee;
              least = facts.least;
            });
        arcs = all_made arc_line_of name_key Arcs (arc_of network) network.arcs (IsArc t) networks.arcs of_network.arcs (λ k key r of.
            let facts = arc_facts network k key r of in
            let there : r.to_place < length networks.places = omega (arith, facts.to_place, places.many) in
            record {
              from_place = omega (arith, facts.from_place, places.many);
              to_place = there;
              kind = λ kind. facts.kind (sym (kind_is network networks.places r.to_place places there) ∙ kind);
              apart = facts.apart;
              cost = facts.cost;
              capacity = facts.capacity;
              lead = facts.lead;
            });
        persons = all_made (persons_line_of settings) (persons_key settings) Persons (persons_of settings network demand) network.persons (IsPersons t) networks.persons of_network.persons (λ k key r of.
            let facts = persons_facts settings network demand k key r of in
            let there : r.place < length networks.places = omega (arith, facts.place.there, places.many) in
            record {
              place = there;
              kind = kind_is network networks.places r.place places there ∙ facts.kind;
              month = (facts.month.above, facts.month.below);
              persons = facts.persons;
              basket = basket_there settings diet demand demands facts.basket_name r.basket of_demand holds.some facts.basket;
            });
        stock = all_made (stock_line_of settings) stock_key Stock (stock_of diet network) network.stock (IsStock t) networks.stock of_network.stock (λ k key r of.
            let facts = stock_facts settings diet network k key r of in
            record {
              place = omega (arith, facts.place.there, places.many);
              commodity = omega (arith, facts.commodity.there, commodities.many);
              month = (facts.month.above, facts.month.below);
              kg = facts.kg;
            });
        needs = holds.needs;
        needs_in = λ k d within. let is = holds.needs_in k d within in record { basket = is.0; nutrient = is.1 };
        keys = record {
          commodity = names_once commodity_line_of name_key Commodities (commodity_of diet) diet.commodities (λ r. r.commodity) diets.commodities commodities (λ k key r of. (commodity_facts diet k key r of).known);
          group = names_once group_line_of name_key Groups group_of diet.groups (λ r. r.group) diets.groups of_diet.groups (λ k key r of. (group_facts diet k key r of).known);
          nutrient = names_once (nutrient_line_of settings) name_key Nutrients nutrient_of diet.nutrients (λ r. r.nutrient) diets.nutrients of_diet.nutrients (nutrient_known settings diet);
          content = content_once diet diets.contents of_diet.contents;
          place = names_once place_line_of name_key Places place_of network.places (λ r. r.place) networks.places places (λ k key r of. (place_facts network k key r of).known);
          offer = names_once (offer_line_of settings) name_key Offers (offer_of diet network) network.offers (λ r. r.offer) networks.offers of_network.offers (λ k key r of. (offer_facts settings diet network k key r of).known);
          arc = names_once arc_line_of name_key Arcs (arc_of network) network.arcs (λ r. r.arc) networks.arcs of_network.arcs (λ k key r of. (arc_facts network k key r of).known);
          persons = persons_once settings network demand networks.persons of_network.persons;
          stock = stock_once settings diet network networks.stock of_network.stock;
          basket = holds.basket_once;
          need = holds.need_once;
        };
        first_format = λ lacks. record { basket = holds.only lacks; a_need_each = holds.a_need_each lacks; in_order = holds.in_order lacks };
        no_lots = λ lacks. all_made (offer_line_of settings) name_key Offers (offer_of diet network) network.offers HasNoLot networks.offers of_network.offers (λ k key r of. (offer_facts settings diet network k key r of).none lacks);
      }
    where
      within_groups : (group : Option ℕ) → IfSome group (λ g. g < length diet.groups.keys) → IfSome group (λ g. g < length diets.groups)
      within_groups None is = tt
      within_groups (Some g) is = omega (arith, is, of_diet.groups.many)

-- every model that is read is one of which all of this holds
pub IsModel-read : (files : ModelFiles) (t : Tables) → tables_of files ≡ Ok t → IsModel t
unfolding tables_of tables_in linked_of
IsModel-read files t e =
    let checked = bind_ok (all_checked files) _ t e in
    let settings = bind_ok (settings_of (bytes_of files Settings)) _ t checked.2 in
    let format : ℕ = settings.0.format in
    let diet = bind_ok (diet_of settings.0 (diet_grids_of files format)) _ t settings.2 in
    let network = bind_ok (network_of settings.0 (network_grids_of files format)) _ t diet.2 in
    let demand = bind_ok (demand_of settings.0 (demand_grids_of files format)) _ t network.2 in
    let diets = bind_ok (diet_records_of diet.0) _ t demand.2 in
    let networks = bind_ok (network_records_of settings.0 diet.0 network.0 demand.0) _ t diets.2 in
    let demands = bind_ok (demand_records_of settings.0 diet.0 demand.0) _ t networks.2 in
    let made : Tables = tables_with settings.0 diets.0 networks.0 demands.0 in
    let same : made ≡ t = ok_same made t demands.2 in
    let clean : (file : File) → AreClean (rows_in files format file) = λ file. clean_in files format file (checked_files_small files checked.1 file) in
    subst IsModel same (model_is settings.0 diet.0 network.0 demand.0 diets.0 networks.0 demands.0 (settings-kept (bytes_of files Settings) settings.0 settings.1)
    (diet_is files settings.0 diet.0 diets.0 clean diet.1 diets.1) (network_is files settings.0 diet.0 network.0 demand.0 networks.0 clean network.1 networks.1)
    (demand_is files settings.0 diet.0 demand.0 demands.0 clean demand.1 demands.1))
