-- What a record of a plan file is about: a quantity but for its month.
use Rattle.std.specs.Prelude.{◌≡◌, ℕ, ◌==◌, ◌&&◌, cond, Bool, List, length, map, bytes_eq, codes, position, Option, Some, None, option_map, Result, Ok, Err, if◌then◌else◌}
use Rattle.std.specs.Option.{ok_or}
use Rattle.opt_base.specs.Answers.{◌>>=◌}
use Rattle.opt_base.specs.declared.refusal.Kind.TheVariants.{UnknownName}
use Rattle.opt_base.specs.declared.refusal.Refusal.{Refusal}
use Rattle.opt_model.specs.Settings.{has_baskets, has_lots}
use Rattle.opt_model.specs.Tables.{Tables}
use Rattle.opt_model.specs.declared.quantity.Quantity.{Quantity}
use Rattle.opt_model.specs.declared.records.Need.{Need}
use Rattle.opt_model.specs.declared.quantity.Quantity.TheVariants as quantity
use Rattle.opt_tables.specs.Records.{Record, text_in, name_in, refused_at}
use Rattle.opt_report.specs.declared.table_names.TableNames.{TableNames}
use Rattle.opt_report.specs.declared.plan_subject.QuantityKind.{QuantityKind}
use Rattle.opt_report.specs.declared.plan_subject.QuantityKind.TheVariants as kind
use Rattle.opt_report.specs.declared.plan_subject.Subject.{Subject}
use Rattle.opt_report.specs.declared.plan_subject.Subject.TheVariants as subject

-- the names of the records of each table that a plan file names
abbrev pub basket_names : Tables → List (List ℕ)
basket_names t = map (λ r. r.basket) t.baskets

abbrev pub commodity_names : Tables → List (List ℕ)
commodity_names t = map (λ r. r.commodity) t.commodities

abbrev pub nutrient_names : Tables → List (List ℕ)
nutrient_names t = map (λ r. r.nutrient) t.nutrients

abbrev pub offer_names : Tables → List (List ℕ)
offer_names t = map (λ r. r.offer) t.offers

abbrev pub arc_names : Tables → List (List ℕ)
arc_names t = map (λ r. r.arc) t.arcs

abbrev pub place_names : Tables → List (List ℕ)
place_names t = map (λ r. r.place) t.places

-- these are the names of a model's records
pub record AreNamesOf (t : Tables) (names : TableNames) : Type 0 where
  pub baskets : names.baskets ≡ basket_names t
  pub commodities : names.commodities ≡ commodity_names t
  pub nutrients : names.nutrients ≡ nutrient_names t
  pub offers : names.offers ≡ offer_names t
  pub arcs : names.arcs ≡ arc_names t
  pub places : names.places ≡ place_names t

-- the number of the record that a column names, from 0
abbrev pub named_in : Record → ℕ → List (List ℕ) → Result ℕ Refusal
named_in row column names =
    name_in row column >>= λ name. ok_or (position (bytes_eq name) names) (refused_at row column UnknownName)

-- the numbers of the records that the second and the third column name
abbrev pub both_named_in : Record → List (List ℕ) → List (List ℕ) → Result (ℕ × ℕ) Refusal
both_named_in row names items = named_in row 2 names >>= λ first. named_in row 3 items >>= λ second. Ok (first, second)

-- the number of the record that the second column names, where nothing stands in the third
abbrev pub one_named_in : Record → List (List ℕ) → Result ℕ Refusal
one_named_in row names = named_in row 2 names >>= λ number. if length (text_in row 3) == 0 then Ok number else Err (refused_at row 3 UnknownName)

-- orders, in a format that has them; they came with format 3
abbrev pub order_kind : ℕ → Option QuantityKind
order_kind format = if has_lots format then Some kind.Order else None

-- the kind of quantity that a word names under a format
abbrev pub kind_named : ℕ → List ℕ → Option QuantityKind
kind_named format word =
    if bytes_eq word (codes "ration") then Some kind.Ration
    else (if bytes_eq word (codes "short") then Some kind.Short
    else (if bytes_eq word (codes "buy") then Some kind.Buy
    else (if bytes_eq word (codes "ship") then Some kind.Ship
    else (if bytes_eq word (codes "keep") then Some kind.Keep
    else (if bytes_eq word (codes "feed") then Some kind.Feed
    else (if bytes_eq word (codes "order") then order_kind format else None))))))

-- the ration that the second and the third column name; from format 2 on they name its basket
abbrev pub ration_in : Tables → Record → Result Subject Refusal
ration_in t row = cond (has_baskets t.settings.format)
    (both_named_in row (basket_names t) (commodity_names t) >>= λ both. Ok (subject.Ration both.0 both.1))
    (one_named_in row (commodity_names t) >>= λ commodity. Ok (subject.Ration 0 commodity))

-- the same of a shortfall
abbrev pub short_in : Tables → Record → Result Subject Refusal
short_in t row = cond (has_baskets t.settings.format)
    (both_named_in row (basket_names t) (nutrient_names t) >>= λ both. Ok (subject.Short both.0 both.1))
    (one_named_in row (nutrient_names t) >>= λ nutrient. Ok (subject.Short 0 nutrient))

-- what the second and the third column name, by the kind of quantity
abbrev pub named_subject_in : Tables → Record → QuantityKind → Result Subject Refusal
named_subject_in t row kind.Ration = ration_in t row
named_subject_in t row kind.Short = short_in t row
named_subject_in t row kind.Buy = one_named_in row (offer_names t) >>= λ offer. Ok (subject.Buy offer)
named_subject_in t row kind.Ship = both_named_in row (arc_names t) (commodity_names t) >>= λ both. Ok (subject.Ship both.0 both.1)
named_subject_in t row kind.Keep = both_named_in row (place_names t) (commodity_names t) >>= λ both. Ok (subject.Keep both.0 both.1)
named_subject_in t row kind.Feed = both_named_in row (place_names t) (commodity_names t) >>= λ both. Ok (subject.Feed both.0 both.1)
named_subject_in t row kind.Order = one_named_in row (offer_names t) >>= λ offer. Ok (subject.Order offer)

-- what a record is about
abbrev pub subject_in : Tables → Record → Result Subject Refusal
subject_in t row = ok_or (kind_named t.settings.format (text_in row 1)) (refused_at row 1 UnknownName) >>= named_subject_in t row

-- whether a need is that of a basket for a nutrient
abbrev pub is_need : ℕ → ℕ → Need → Bool
is_need basket nutrient need = (need.basket == basket) && (need.nutrient == nutrient)

-- the number of the need of a basket for a nutrient
abbrev pub need_of : Tables → ℕ → ℕ → Option ℕ
need_of t basket nutrient = position (is_need basket nutrient) t.needs

-- the quantity of a subject in a month; none where a basket has no need for a nutrient
abbrev pub quantity_of : Tables → Subject → ℕ → Option Quantity
quantity_of t (subject.Ration basket commodity) month = Some (quantity.Ration basket commodity month)
quantity_of t (subject.Short basket nutrient) month = option_map (λ need. quantity.Short need month) (need_of t basket nutrient)
quantity_of t (subject.Buy offer) month = Some (quantity.Buy offer month)
quantity_of t (subject.Ship arc commodity) month = Some (quantity.Ship arc commodity month)
quantity_of t (subject.Keep place commodity) month = Some (quantity.Keep place commodity month)
quantity_of t (subject.Feed place commodity) month = Some (quantity.Feed place commodity month)
quantity_of t (subject.Order offer) month = Some (quantity.Order offer month)
