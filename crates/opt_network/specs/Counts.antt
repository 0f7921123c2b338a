-- How many quantities of each kind a model has.
use Rattle.std.specs.Prelude.{ℕ, ◌+◌, ◌&&◌, Bool, nat_le, List, count_by, sum_by, pos, int_lt, int_le}
use Rattle.std.specs.List.{enumerate_from, range_with_len}
use Rattle.opt_model.specs.Tables.{Tables}
use Rattle.opt_model.specs.Quantities.{is_point, is_offered, has_order, all_heads}
use Rattle.opt_model.specs.declared.records.Offer.{Offer}
use Rattle.opt_model.specs.declared.records.Arc.{Arc}
use Rattle.opt_model.specs.declared.records.Place.{Place}
use Rattle.opt_model.specs.declared.records.PlaceKind.{PlaceKind}

-- in how many of so many months, from 1 on, a test holds
abbrev pub month_count : ℕ → (ℕ → Bool) → ℕ
month_count months test = count_by test (range_with_len 1 months)

-- in how many months an offer stands
abbrev pub offered_months : Tables → Offer → ℕ
offered_months t offer = month_count t.settings.months (is_offered offer)

-- an offer with a fee or a least lot stands in a month
abbrev pub is_ordered : Offer → ℕ → Bool
is_ordered offer month = is_offered offer month && has_order offer

-- in how many months an offer with a fee or a least lot stands
abbrev pub ordered_months : Tables → Offer → ℕ
ordered_months t offer = month_count t.settings.months (is_ordered offer)

-- from a departure in this month an arc arrives within so many months
abbrev pub arrives : ℕ → Arc → ℕ → Bool
arrives months arc month = nat_le (month + arc.lead) months

-- in how many months something leaves on an arc
abbrev pub departure_months : Tables → Arc → ℕ
departure_months t arc = month_count t.settings.months (arrives t.settings.months arc)

-- a place feeds somebody in a month
abbrev pub is_fed : Tables → ℕ → PlaceKind → ℕ → Bool
is_fed t place kind month = is_point kind && int_le (pos 1) (all_heads t place month)

-- in how many months a place feeds somebody
abbrev pub fed_months : Tables → ℕ → Place → ℕ
fed_months t number place = month_count t.settings.months (is_fed t number place.kind)

-- a place can keep something
abbrev pub has_storage : Place → Bool
has_storage place = int_lt (pos 0) place.storage

-- the sum of a number for each record with its number
abbrev pub sum_numbered : {A : Type 0} → List A → (ℕ → A → ℕ) → ℕ
sum_numbered records f = sum_by (λ r. f r.0 r.1) (enumerate_from 0 records)
