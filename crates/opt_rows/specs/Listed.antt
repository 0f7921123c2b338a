-- What is listed once before rows are made of it: what steps of rations hold of a nutrient, the commodities of a group, and what comes
-- to a place and leaves it.
use Rattle.std.specs.Prelude.{◌≡◌, ℕ, ◌==◌, ◌&&◌, Bool, nat_lt, nat_le, List, [], ◌∷◌, length, ◌*ℤ◌}
use Rattle.opt_model.specs.Tables.{Tables}
use Rattle.opt_model.specs.Quantities.{over, list_if, step_of}
use Rattle.opt_model.specs.Rows.{is_in_group}
use Rattle.opt_model.specs.declared.records.Commodity.{Commodity}
use Rattle.opt_model.specs.declared.records.Content.{Content}
use Rattle.opt_model.specs.declared.records.Offer.{Offer}
use Rattle.opt_model.specs.declared.records.Arc.{Arc}
use Rattle.opt_rows.specs.declared.flows.Flows.{Flows}
use Rattle.opt_rows.specs.declared.flows.Network.{Network}
use Rattle.opt_rows.specs.declared.flows.Sale.{Sale}
use Rattle.opt_rows.specs.declared.flows.Way.{Way}
use Rattle.opt_rows.specs.declared.group_members.Member.{Member}
use Rattle.opt_rows.specs.declared.nutrient_contents.StepContent.{StepContent}
use Rattle.opt_rows.specs.Piles.{ArePiles}

-- what a step of a commodity's ration holds of a nutrient, times 100
abbrev pub step_content_of : Tables → Content → StepContent
step_content_of t r = record { commodity = r.commodity; units = r.per_100g *ℤ step_of t r.commodity }

-- the same of all commodities
abbrev pub step_contents : Tables → ℕ → List StepContent
step_contents t nutrient = over t.contents λ _ r. list_if (r.nutrient == nutrient) (step_content_of t r ∷ [])

-- a commodity with its number
abbrev pub member_of : ℕ → Commodity → Member
member_of number r = record { commodity = number; step_g = r.step_g }

-- the commodities of a group
abbrev pub members_of : Tables → ℕ → List Member
members_of t group = over t.commodities λ c r. list_if (is_in_group r.group group) (member_of c r ∷ [])

-- an offer stands from a month of the plan on
abbrev pub begins_in_plan : Tables → Offer → Bool
begins_in_plan t offer = nat_le offer.first t.settings.months

-- what leaves on an arc can arrive in a month of the plan
abbrev pub arrives_in_plan : Tables → Arc → Bool
arrives_in_plan t arc = nat_lt arc.lead t.settings.months

-- what an offer sells
abbrev pub sale_of : ℕ → Offer → Sale
sale_of number offer = record { offer = number; commodity = offer.commodity }

-- what the offers at a place sell that can be bought in the plan
abbrev pub sales_at : Tables → ℕ → List Sale
sales_at t place = over t.offers λ o offer. list_if ((offer.place == place) && begins_in_plan t offer) (sale_of o offer ∷ [])

-- an arc with its number
abbrev pub way_of : ℕ → Arc → Way
way_of number arc = record { arc = number; lead = arc.lead }

-- the arcs that lead to a place and on which something can leave in the plan
abbrev pub arrivals_at : Tables → ℕ → List Way
arrivals_at t place = over t.arcs λ a arc. list_if ((arc.to_place == place) && arrives_in_plan t arc) (way_of a arc ∷ [])

-- the arcs that lead from a place and on which something can leave in the plan
abbrev pub departures_from : Tables → ℕ → List Way
departures_from t place = over t.arcs λ a arc. list_if ((arc.from_place == place) && arrives_in_plan t arc) (way_of a arc ∷ [])

-- of what is sold, the numbers of the offers that sell a commodity
abbrev pub offers_of : List Sale → ℕ → List ℕ
offers_of sales commodity = over sales λ _ sale. list_if (sale.commodity == commodity) (sale.offer ∷ [])

-- the offers at a place and its arcs
pub record AreFlowsOf (t : Tables) (flows : Flows) : Type 0 where
  pub offers : ArePiles (length t.commodities) (offers_of (sales_at t flows.place)) flows.offers.now
  pub arrivals : flows.arrivals.now ≡ arrivals_at t flows.place
  pub departures : flows.departures.now ≡ departures_from t flows.place

-- the offers at each place and its arcs
pub record IsNetworkOf (t : Tables) (network : Network) : Type 0 where
  pub sales : ArePiles (length t.places) (sales_at t) network.sales
  pub arrivals : ArePiles (length t.places) (arrivals_at t) network.arrivals
  pub departures : ArePiles (length t.places) (departures_from t) network.departures
