-- The report of what happens at each place.
use Rattle.std.specs.Prelude.{ℕ, ◌-◌, ◌==◌, nat_lt, Bool, not, ◌&&◌, List, [], ◌∷◌, ◌++◌, codes, ℤ, pos}
use Rattle.std.specs.Fmt.{decimal, signed_decimal}
use Rattle.std.specs.Ordering.{int_eq}
use Rattle.csv.specs.Writing.{row_text, default_writer}
use Rattle.opt_model.specs.Columns.{names_of}
use Rattle.opt_model.specs.Plans.{Plan, sum_of}
use Rattle.opt_model.specs.Quantities.{over, over_months, list_if}
use Rattle.opt_model.specs.RowTexts.{place_name, commodity_name}
use Rattle.opt_model.specs.Rows.{Terms, bought_terms, arrived_terms, sent_terms}
use Rattle.opt_model.specs.Tables.{Tables, stock_at}
use Rattle.opt_model.specs.declared.records.Arc.{Arc}
use Rattle.opt_model.specs.declared.records.Offer.{Offer}
use Rattle.opt_model.specs.declared.quantity.Quantity.TheVariants.{Buy, Ship, Keep, Feed}
use Rattle.opt_report.specs.declared.figures.Figures.{Figures}

-- what is bought of an offer at a place, of a commodity; nothing where it is another's
abbrev pub offer_terms : ℕ → ℕ → ℕ → ℕ → Offer → Terms
offer_terms place commodity month number offer =
    list_if ((offer.place == place) && (offer.commodity == commodity)) ((Buy number month, pos 1) ∷ [])

-- what arrives on an arc at a place; nothing where it ends elsewhere or would have left before the first month
abbrev pub arriving_terms : ℕ → ℕ → ℕ → ℕ → Arc → Terms
arriving_terms place commodity month number arc =
    list_if ((arc.to_place == place) && nat_lt arc.lead month) ((Ship number commodity (month - arc.lead), pos 1) ∷ [])

-- what leaves on an arc from a place; nothing where it starts elsewhere
abbrev pub leaving_terms : ℕ → ℕ → ℕ → ℕ → Arc → Terms
leaving_terms place commodity month number arc = list_if (arc.from_place == place) ((Ship number commodity month, pos 1) ∷ [])

-- the kilograms of a commodity that are in stock, bought, arrived, sent, kept and handed out at a place in a month
abbrev pub figures_of : Tables → Plan → ℕ → ℕ → ℕ → Figures
figures_of t plan place commodity month = record {
  stock = stock_at t place commodity month;
  bought = sum_of (bought_terms t place commodity month) plan;
  arrived = sum_of (arrived_terms t place commodity month) plan;
  sent = sum_of (sent_terms t place commodity month) plan;
  kept = plan (Keep place commodity month);
  handed_out = plan (Feed place commodity month);
}

-- each figure is 0
abbrev pub are_zero : Figures → Bool
are_zero f =
    int_eq f.stock (pos 0) && (int_eq f.bought (pos 0) && (int_eq f.arrived (pos 0) && (int_eq f.sent (pos 0) && (int_eq f.kept (pos 0) && int_eq f.handed_out (pos 0)))))

-- the texts of the figures
abbrev pub figure_texts : Figures → List (List ℕ)
figure_texts f =
    signed_decimal f.stock ∷ signed_decimal f.bought ∷ signed_decimal f.arrived ∷ signed_decimal f.sent ∷ signed_decimal f.kept ∷ signed_decimal f.handed_out ∷ []

-- the record of a commodity at a place in a month, with its figures
abbrev pub figures_record : Tables → ℕ → ℕ → ℕ → Figures → List ℕ
figures_record t month place commodity f =
    row_text default_writer (decimal month ∷ place_name t place ∷ commodity_name t commodity ∷ figure_texts f)

-- the record of what happens to a commodity at a place in a month, unless each figure is 0
abbrev pub site_record : Tables → Plan → ℕ → ℕ → ℕ → List ℕ
site_record t plan month place commodity =
    list_if (not (are_zero (figures_of t plan place commodity month))) (figures_record t month place commodity (figures_of t plan place commodity month))

-- the names of the columns
unfoldable pub site_columns : List ℕ
site_columns = codes "month,place,commodity,stock,bought,arrived,sent,kept,handed_out"

-- the report: the names of the columns, then month by month and place by place the records of the commodities
abbrev pub sites_text : Tables → Plan → List ℕ
sites_text t plan =
    row_text default_writer (names_of site_columns)
    ++ (over_months t λ m. over t.places λ p _. over t.commodities λ c _. site_record t plan m p c)
