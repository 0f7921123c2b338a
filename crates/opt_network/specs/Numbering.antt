-- The quantities of a model by their numbers, with their ranges, and which models have few enough of them.
use Rattle.std.specs.Prelude.{◌≡◌, ℕ, ◌+◌, ◌^◌, ◌<◌, ◌≤◌, ◌&&◌, Bool, false, nat_lt, nat_le, List, length, map, count_by, Result, Ok, Err, ℤ, pos, ◌≤ℤ◌, int_lt, int_le, slice_get, slice_index_or, if◌then◌else◌}
use Rattle.std.specs.Option.{option_map_or}
use Rattle.opt_base.specs.declared.limits.TheConstants.{QUANTITY_LIMIT, QUANTITIES_COLUMN}
use Rattle.opt_base.specs.declared.refusal.Refusal.{Refusal}
use Rattle.opt_base.specs.Refusals.{too_many}
use Rattle.opt_model.specs.Tables.{Tables}
use Rattle.opt_model.specs.Quantities.{rations, quantities, low, high, same_quantity, is_offered, has_order, is_point, all_heads}
use Rattle.opt_model.specs.declared.quantity.Quantity.{Quantity}
use Rattle.opt_model.specs.declared.quantity.Quantity.TheVariants.{Ration, Short, Buy, Ship, Keep, Feed, Order}

-- the quantities in the order of their numbers, the least and the greatest value of each, and how many are rations
pub record Numbering : Type 0 where
  pub quantities : List Quantity
  pub lows : List ℤ
  pub highs : List ℤ
  pub rations : ℕ

-- these quantities, least values and greatest values, of which the first are so many rations
abbrev pub numbering_with : List Quantity → List ℤ → List ℤ → ℕ → Numbering
numbering_with quantities lows highs rations = record { quantities = quantities; lows = lows; highs = highs; rations = rations }

-- the numbering of a model's quantities
abbrev pub numbering_of : Tables → Numbering
numbering_of t = record {
  quantities = quantities t;
  lows = map (low t) (quantities t);
  highs = map (high t) (quantities t);
  rations = length (rations t);
}

-- the numbering of a model's quantities, or the refusal of their count
abbrev pub limited_numbering : Tables → Result Numbering Refusal
limited_numbering t =
    if nat_lt QUANTITY_LIMIT (length (quantities t)) then Err (too_many QUANTITIES_COLUMN (length (quantities t))) else Ok (numbering_of t)

-- from the least value to the greatest, both from 0 on and below 2^40
pub record IsSpan (low high : ℤ) : Type 0 where
  pub from_zero : pos 0 ≤ℤ low
  pub rising : low ≤ℤ high
  pub small : high ≤ℤ pos (2 ^ 40)

-- what holds of every layout: no quantity has two numbers, and each has its range
pub record IsNumbering (layout : Numbering) : Type 0 where
  pub few : length layout.quantities ≤ QUANTITY_LIMIT
  pub once : (q : Quantity) → count_by (same_quantity q) layout.quantities ≤ 1
  pub lows : length layout.lows ≡ length layout.quantities
  pub highs : length layout.highs ≡ length layout.quantities
  pub spans : (i : ℕ) → i < length layout.quantities → IsSpan (slice_index_or layout.lows i (pos 0)) (slice_index_or layout.highs i (pos 0))
  pub rations : layout.rations ≤ length layout.quantities

-- there is a record of this number, from 0
abbrev pub has_record : {A : Type 0} → List A → ℕ → Bool
has_record records number = nat_lt number (length records)

-- there is a record of this number, from 0, and it passes a test
abbrev pub has_record_where : {A : Type 0} → (A → Bool) → List A → ℕ → Bool
has_record_where test records number = option_map_or test (slice_get records number) false

-- a month of the plan, from 1
abbrev pub has_month : Tables → ℕ → Bool
has_month t month = nat_le 1 month && nat_le month t.settings.months

-- whether a quantity exists
abbrev pub has_quantity : Tables → Quantity → Bool
has_quantity t (Ration b c m) = has_record t.baskets b && (has_record t.commodities c && has_month t m)
has_quantity t (Short d m) = has_record t.needs d && has_month t m
has_quantity t (Buy o m) = has_record_where (λ offer. is_offered offer m) t.offers o && has_month t m
has_quantity t (Ship a c m) = has_record_where (λ arc. nat_le (m + arc.lead) t.settings.months) t.arcs a && (has_record t.commodities c && has_month t m)
has_quantity t (Keep p c m) = has_record_where (λ place. int_lt (pos 0) place.storage) t.places p && (has_record t.commodities c && has_month t m)
has_quantity t (Feed p c m) =
    has_record_where (λ place. is_point place.kind && int_le (pos 1) (all_heads t p m)) t.places p && (has_record t.commodities c && has_month t m)
has_quantity t (Order o m) = has_record_where (λ offer. is_offered offer m && has_order offer) t.offers o && has_month t m

-- a layout is that of a model, whose quantities are within their limit: each quantity that exists has one number, and no other has one
pub record IsLayoutOf (t : Tables) (layout : Numbering) : Type 0 where
  pub same : layout ≡ numbering_of t
  pub few : length (quantities t) ≤ QUANTITY_LIMIT
  pub once : (q : Quantity) → count_by (same_quantity q) layout.quantities ≡ (if has_quantity t q then 1 else 0)
