-- The values that records list of quantities, by the quantities' numbers.
use Rattle.std.proofs.Common.{◌≡◌, ◌≢◌, ◌⊎◌, inl, inr, ℕ, ◌<◌, true, length, get_or, map, replicate, position, Option, Some, None, ℤ, pos, sym, ap, subst, ◌∙◌, arith}
use Rattle.std.specs.Prelude.{IfSome, slice_index_or, slice_set}
use Rattle.std.proofs.lemmas.List.{get_or-map, length-replicate, get_or-replicate, length-set, get_or-set_same, get_or-set_other}
use Rattle.std.proofs.lemmas.List.Quantifiers.{position-Some}
use Rattle.opt_model.specs.Tables.{Tables}
use Rattle.opt_model.specs.Quantities.{quantities, low, high, same_quantity}
use Rattle.opt_model.specs.declared.quantity.Quantity.{Quantity}
use Rattle.opt_model.proofs.Quantities.{same_quantity-true}
use Rattle.opt_network.specs.Numbering.{Numbering, IsLayoutOf, has_quantity}
use Rattle.opt_network.proofs.Ranges.{all_exist}
use Rattle.opt_rows.specs.Systems.{root_of}
use Rattle.opt_sums.specs.Sums.{at}
use Rattle.opt_tables.specs.Facts.{IsFrom}
use Rattle.opt_report.specs.PlanFiles.{Listed, AreListed}

module _ (t : Tables) (q : Quantity) (number : ℕ) (found : position (same_quantity q) (quantities t) ≡ Some number) where
  -- a quantity stands at its number
  pub stands_at : (d : Quantity) → (number < length (quantities t)) × (get_or (quantities t) number d ≡ q)
  stands_at d =
      let there = position-Some (same_quantity q) (quantities t) number d found in
      (there.0, sym (same_quantity-true q (get_or (quantities t) number d) there.1))

  -- what a list of numbers, one for each quantity, has at the number of one
  pub at_number : (f : Quantity → ℤ) → at (map f (quantities t)) number ≡ f q
  at_number f = let here = stands_at q in get_or-map f (quantities t) number q (pos 0) here.0 ∙ ap f here.1

  -- a quantity with a number exists
  pub exists : has_quantity t q ≡ true
  exists = let here = stands_at q in subst (λ (r : Quantity). has_quantity t r ≡ true) here.1 (all_exist t number q here.0)

  -- one more value is listed
  pub listed_more : (listed : Listed) (value : ℤ) → AreListed t listed → IsFrom (low t q) (high t q) value → AreListed t (slice_set listed number (Some value))
  listed_more listed value are is = record { one_each = length-set listed number (Some value) ∙ are.one_each; within = λ k h. by k (same_or_other k number) (omega (arith, h, length-set listed number (Some value))) }
    where
      same_or_other : (k n : ℕ) → (k ≡ n) ⊎ (k ≢ n)
      same_or_other k n = grind arith

      here : IsFrom (at (root_of t).low number) (at (root_of t).high number) value
      here = rw (at_number (low t), at_number (high t)) is

      by : (k : ℕ) → (k ≡ number) ⊎ (k ≢ number) → k < length listed
          → IfSome (slice_index_or (slice_set listed number (Some value)) k None) (IsFrom (at (root_of t).low k) (at (root_of t).high k))
      by k (inl same) h =
          rw (same, get_or-set_same listed number (Some value) None (subst (λ n. n < length listed) same h)) here
      by k (inr other) h = rw (get_or-set_other listed number k (Some value) None other) (are.within k h)

-- no value is listed
pub listed_none : (t : Tables) → AreListed t (replicate (length (quantities t)) None)
listed_none t = record {
  one_each = length-replicate (length (quantities t)) None;
  within = λ number h.
      let no : Option ℤ = None in
      rw (get_or-replicate (length (quantities t)) number no no (omega (arith, h, length-replicate (length (quantities t)) no))) tt;
}

-- the ranges of a layout are those of its model
pub same_lows : (t : Tables) (layout : Numbering) → IsLayoutOf t layout → layout.lows ≡ map (low t) (quantities t)
same_lows t layout is = ap (λ (n : Numbering). n.lows) is.same

pub same_highs : (t : Tables) (layout : Numbering) → IsLayoutOf t layout → layout.highs ≡ map (high t) (quantities t)
same_highs t layout is = ap (λ (n : Numbering). n.highs) is.same

pub same_quantities : (t : Tables) (layout : Numbering) → IsLayoutOf t layout → layout.quantities ≡ quantities t
same_quantities t layout is = ap (λ (n : Numbering). n.quantities) is.same
