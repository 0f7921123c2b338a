-- The tables in the order in which they are computed are the model that the files stand for.
use Rattle.std.proofs.Common.{◌≡◌, Bool, true, false, cond, List, [], ◌∷◌, Result, Ok, Err, refl, sym, ap, ◌∙◌}
use Rattle.opt_base.specs.declared.refusal.File.TheVariants.{Commodities, Groups, Nutrients, Contents, Places, Offers, Arcs, Persons, Stock, Baskets, Needs}
use Rattle.opt_base.specs.declared.refusal.Refusal.{Refusal}
use Rattle.opt_base.specs.Answers.{◌>>=◌}
use Rattle.opt_model.specs.Settings.{Settings, has_baskets}
use Rattle.opt_model.specs.Tables.{Tables}
use Rattle.opt_model.specs.declared.records.Content.{Content}
use Rattle.opt_model.specs.declared.records.Offer.{Offer}
use Rattle.opt_model.specs.declared.records.Arc.{Arc}
use Rattle.opt_model.specs.declared.records.Stock.{Stock as StockRecord}
use Rattle.opt_model.specs.declared.records.Need.{Need}
use Rattle.opt_tables.specs.Files.{ModelFiles}
use Rattle.opt_tables.specs.Grids.{rows_in, diet_grids_of, network_grids_of, demand_grids_of}
use Rattle.opt_tables.specs.Lines.{Lines, lines_in, name_key, records_of}
use Rattle.opt_tables.specs.Diet.{Diet, DietTables, commodity_lines_in, group_line_of, nutrient_line_of, content_line_of, content_key, content_by, content_of, diet_of}
use Rattle.opt_tables.specs.Network.{Network, NetworkTables, place_line_of, offer_line_of, arc_line_of, persons_line_of, persons_key, stock_line_of, stock_key, offer_by, arc_by, persons_by, stock_by, offer_of, arc_of, persons_of, stock_of, network_of}
use Rattle.opt_tables.specs.Demand.{Demand, DemandTables, basket_lines_in, need_line_of, need_key, need_by, need_of, demand_of, own_demand, only_demand, only_basket, needs_from, demand_records_of}
use Rattle.opt_tables.specs.Model.{diet_records_of, network_records_of, tables_with, linked_of, tables_in, tables_from}
use Rattle.opt_tables.specs.Early.{diet_names_of, diet_read, network_read, demand_read, diet_linked, network_linked, only_needs_in, own_linked, demand_linked, tables_linked, tables_read, diet_grids_in, network_grids_in, demand_grids_in}
use Rattle.opt_tables.specs.declared.commodities.CommodityLine.{CommodityLine}
use Rattle.opt_tables.specs.declared.groups.GroupLine.{GroupLine}
use Rattle.opt_tables.specs.declared.nutrients.NutrientLine.{NutrientLine}
use Rattle.opt_tables.specs.declared.contents.ContentLine.{ContentLine}
use Rattle.opt_tables.specs.declared.places.PlaceLine.{PlaceLine}
use Rattle.opt_tables.specs.declared.offers.OfferLine.{OfferLine}
use Rattle.opt_tables.specs.declared.arcs.ArcLine.{ArcLine}
use Rattle.opt_tables.specs.declared.persons.PersonsLine.{PersonsLine}
use Rattle.opt_tables.specs.declared.stock.StockLine.{StockLine}
use Rattle.opt_tables.specs.declared.baskets.BasketLine.{BasketLine}
use Rattle.opt_tables.specs.declared.needs.NeedLine.{NeedLine}
use Rattle.opt_tables.specs.declared.diet.DietNames.{DietNames}
use Rattle.opt_tables.specs.declared.diet.Diet.{Diet as EarlyDiet}
use Rattle.opt_tables.specs.declared.network.NetworkNames.{NetworkNames}
use Rattle.opt_tables.specs.declared.network.Network.{Network as EarlyNetwork}
use Rattle.opt_tables.specs.declared.demand.DemandNames.{DemandNames}
use Rattle.opt_tables.specs.declared.demand.Demand.{Demand as EarlyDemand}

-- the diet with its contents looked up
abbrev early_diet : Diet → EarlyDiet
early_diet diet = record { names = record { commodities = diet.commodities; groups = diet.groups; nutrients = diet.nutrients }; contents = records_of (content_of diet) diet.contents }

-- the network with its offers, arcs and stock looked up
abbrev early_network : Diet → Network → EarlyNetwork
early_network diet network = record {
  names = record { diet = early_diet diet; places = network.places };
  offers = records_of (offer_of diet network) network.offers;
  arcs = records_of (arc_of network) network.arcs;
  stock = records_of (stock_of diet network) network.stock;
}

-- the network, and the lines of persons that wait for the baskets
abbrev paired : EarlyNetwork → Lines PersonsLine → EarlyNetwork × Lines PersonsLine
paired network persons = (network, persons)

-- the demand with its needs, and persons, looked up
abbrev early_demand : Settings → Diet → Network → Demand → EarlyDemand
early_demand settings diet network demand = record {
  names = record { network = early_network diet network; baskets = demand.baskets };
  persons = records_of (persons_of settings network demand) network.persons;
  needs = records_of (need_of diet demand) demand.needs;
}

module _ (files : ModelFiles) (settings : Settings) where
  diet_early : diet_read files settings (diet_grids_in files settings) ≡ (diet_of settings (diet_grids_of files settings.format) >>= λ diet. Ok (early_diet diet))
  unfolding diet_read diet_names_of diet_of
  diet_early =
      by (commodity_lines_in (rows_in files settings.format Commodities)) (lines_in group_line_of name_key Groups (rows_in files settings.format Groups))
      (lines_in (nutrient_line_of settings) name_key Nutrients (rows_in files settings.format Nutrients)) (lines_in content_line_of content_key Contents (rows_in files settings.format Contents))
    where
      named : Lines CommodityLine → Lines GroupLine → Lines NutrientLine → DietNames
      named c g n = record { commodities = c; groups = g; nutrients = n }

      with_contents : DietNames → Result (List Content) Refusal → EarlyDiet
      with_contents names contents = record { names = names; contents = contents }

      whole : Lines CommodityLine → Lines GroupLine → Lines NutrientLine → Lines ContentLine → Diet
      whole c g n k = record { commodities = c; groups = g; nutrients = n; contents = k }

      by : (c : Result (Lines CommodityLine) Refusal) (g : Result (Lines GroupLine) Refusal) (n : Result (Lines NutrientLine) Refusal) (k : Result (Lines ContentLine) Refusal)
          → ((c >>= λ x. g >>= λ y. n >>= λ z. Ok (named x y z)) >>= λ names. (k >>= λ lines. Ok (records_of (content_by names.commodities.keys names.nutrients.keys) lines)) >>= λ contents. Ok (with_contents names contents))
          ≡ ((c >>= λ x. g >>= λ y. n >>= λ z. k >>= λ w. Ok (whole x y z w)) >>= λ diet. Ok (early_diet diet))
      by (Err r) g n k = refl
      by (Ok x) (Err r) n k = refl
      by (Ok x) (Ok y) (Err r) k = refl
      by (Ok x) (Ok y) (Ok z) (Err r) = refl
      by (Ok x) (Ok y) (Ok z) (Ok w) = refl

  network_early : (diet : Diet) → network_read files settings (network_grids_in files settings) (early_diet diet)
      ≡ (network_of settings (network_grids_of files settings.format) >>= λ network. Ok (paired (early_network diet network) network.persons))
  unfolding network_read network_of
  network_early diet =
      by (lines_in place_line_of name_key Places (rows_in files settings.format Places)) (lines_in (offer_line_of settings) name_key Offers (rows_in files settings.format Offers))
      (lines_in arc_line_of name_key Arcs (rows_in files settings.format Arcs)) (lines_in (persons_line_of settings) (persons_key settings) Persons (rows_in files settings.format Persons))
      (lines_in (stock_line_of settings) stock_key Stock (rows_in files settings.format Stock))
    where
      with_lists : Lines PlaceLine → Result (List Offer) Refusal → Result (List Arc) Refusal → Result (List StockRecord) Refusal → EarlyNetwork
      with_lists places offers arcs stock = record { names = record { diet = early_diet diet; places = places }; offers = offers; arcs = arcs; stock = stock }

      whole : Lines PlaceLine → Lines OfferLine → Lines ArcLine → Lines PersonsLine → Lines StockLine → Network
      whole places offers arcs persons stock = record { places = places; offers = offers; arcs = arcs; persons = persons; stock = stock }

      by : (p : Result (Lines PlaceLine) Refusal) (o : Result (Lines OfferLine) Refusal) (a : Result (Lines ArcLine) Refusal) (e : Result (Lines PersonsLine) Refusal) (s : Result (Lines StockLine) Refusal)
          → (p >>= λ places. (o >>= λ lines. Ok (records_of (offer_by places diet.commodities.keys) lines)) >>= λ offers. (a >>= λ lines. Ok (records_of (arc_by places) lines)) >>= λ arcs.
          e >>= λ persons. (s >>= λ lines. Ok (records_of (stock_by places diet.commodities.keys) lines)) >>= λ stock. Ok (paired (with_lists places offers arcs stock) persons))
          ≡ ((p >>= λ x. o >>= λ y. a >>= λ z. e >>= λ u. s >>= λ v. Ok (whole x y z u v)) >>= λ network. Ok (paired (early_network diet network) network.persons))
      by (Err r) o a e s = refl
      by (Ok x) (Err r) a e s = refl
      by (Ok x) (Ok y) (Err r) e s = refl
      by (Ok x) (Ok y) (Ok z) (Err r) s = refl
      by (Ok x) (Ok y) (Ok z) (Ok u) (Err r) = refl
      by (Ok x) (Ok y) (Ok z) (Ok u) (Ok v) = refl

  demand_early : (diet : Diet) (network : Network) → demand_read files settings (demand_grids_in files settings) (early_network diet network) network.persons
      ≡ (demand_of settings (demand_grids_of files settings.format) >>= λ demand. Ok (early_demand settings diet network demand))
  unfolding demand_read demand_of
  demand_early diet network =
      by (basket_lines_in settings (rows_in files settings.format Baskets)) (lines_in need_line_of need_key Needs (rows_in files settings.format Needs))
    where
      with_needs : Lines BasketLine → Result (List Need) Refusal → EarlyDemand
      with_needs baskets needs = record {
        names = record { network = early_network diet network; baskets = baskets };
        persons = records_of (persons_by settings network.places baskets.keys) network.persons;
        needs = needs;
      }

      whole : Lines BasketLine → Lines NeedLine → Demand
      whole baskets needs = record { baskets = baskets; needs = needs }

      by : (b : Result (Lines BasketLine) Refusal) (n : Result (Lines NeedLine) Refusal)
          → (b >>= λ baskets. (n >>= λ lines. Ok (records_of (need_by baskets.keys diet.nutrients.keys) lines)) >>= λ needs. Ok (with_needs baskets needs))
          ≡ ((b >>= λ x. n >>= λ y. Ok (whole x y)) >>= λ demand. Ok (early_demand settings diet network demand))
      by (Err r) n = refl
      by (Ok x) (Err r) = refl
      by (Ok x) (Ok y) = refl

  linked_early : (diet : Diet) (network : Network) (demand : Demand) → tables_linked settings (early_demand settings diet network demand) ≡ linked_of settings diet network demand
  unfolding tables_linked linked_of diet_linked diet_records_of network_linked network_records_of demand_linked demand_records_of
  linked_early diet network demand =
      ap (λ (last : Result DemandTables Refusal). diet_records_of diet >>= λ diets. network_records_of settings diet network demand >>= λ networks. last >>= λ demands. Ok (tables_with settings diets networks demands))
      (by (has_baskets settings.format))
    where
      by : (own : Bool) → cond own (own_linked demand.baskets (records_of (need_of diet demand) demand.needs)) (Ok (record { baskets = only_basket ∷ []; needs = cond own [] (needs_from 0 diet.nutrients.lines) }))
          ≡ cond own (own_demand diet demand) (Ok (only_demand diet))
      by true = refl
      by false = refl

  -- the tables in the order in which they are computed are those of the files
  pub tables_early : tables_read files settings (diet_grids_in files settings) (network_grids_in files settings) (demand_grids_in files settings) ≡ tables_from files settings
  unfolding tables_read tables_in
  tables_early =
      ap (λ (d : Result EarlyDiet Refusal). d >>= λ diet. network_read files settings (network_grids_in files settings) diet >>= λ network. demand_read files settings (demand_grids_in files settings) network.0 network.1 >>= tables_linked settings) diet_early
      ∙ by_diet (diet_of settings (diet_grids_of files settings.format))
    where
      by_demand : (diet : Diet) (network : Network) (e : Result Demand Refusal)
          → ((e >>= λ demand. Ok (early_demand settings diet network demand)) >>= tables_linked settings) ≡ (e >>= λ demand. linked_of settings diet network demand)
      by_demand diet network (Err r) = refl
      by_demand diet network (Ok demand) = linked_early diet network demand

      by_network : (diet : Diet) (n : Result Network Refusal)
          → ((n >>= λ network. Ok (paired (early_network diet network) network.persons)) >>= λ network. demand_read files settings (demand_grids_in files settings) network.0 network.1 >>= tables_linked settings)
          ≡ (n >>= λ network. demand_of settings (demand_grids_of files settings.format) >>= λ demand. linked_of settings diet network demand)
      by_network diet (Err r) = refl
      by_network diet (Ok network) =
          ap (λ (e : Result EarlyDemand Refusal). e >>= tables_linked settings) (demand_early diet network) ∙ by_demand diet network (demand_of settings (demand_grids_of files settings.format))

      by_diet : (d : Result Diet Refusal)
          → ((d >>= λ diet. Ok (early_diet diet)) >>= λ diet. network_read files settings (network_grids_in files settings) diet >>= λ network. demand_read files settings (demand_grids_in files settings) network.0 network.1 >>= tables_linked settings)
          ≡ (d >>= λ diet. network_of settings (network_grids_of files settings.format) >>= λ network. demand_of settings (demand_grids_of files settings.format) >>= λ demand. linked_of settings diet network demand)
      by_diet (Err r) = refl
      by_diet (Ok diet) =
          ap (λ (n : Result (EarlyNetwork × Lines PersonsLine) Refusal). n >>= λ network. demand_read files settings (demand_grids_in files settings) network.0 network.1 >>= tables_linked settings) (network_early diet)
          ∙ by_network diet (network_of settings (network_grids_of files settings.format))
