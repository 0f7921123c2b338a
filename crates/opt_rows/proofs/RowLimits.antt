-- The coefficients of the rows of lots, of the budget and of a cap are small.
use Rattle.std.proofs.Common.{◌≡◌, ℕ, zero, suc, ◌+◌, ◌*◌, ◌^◌, ◌≤◌, max, true, [], ◌∷◌, ℤ, pos, neg_ℤ, unsigned_abs, ap, sym, arith}
use Rattle.std.proofs.lemmas.Int.{ints}
use Rattle.opt_model.specs.Tables.{Tables}
use Rattle.opt_model.specs.Quantities.{high}
use Rattle.opt_model.specs.Rows.{coefficient, negation}
use Rattle.opt_model.specs.Plans.{goal_terms}
use Rattle.opt_model.specs.declared.records.Goal.{Goal}
use Rattle.opt_model.specs.declared.records.Offer.{Offer}
use Rattle.opt_model.specs.declared.quantity.Quantity.{Quantity}
use Rattle.opt_model.specs.declared.quantity.Quantity.TheVariants.{Buy, Order}
use Rattle.opt_system.specs.Systems.{IsSmallBy}
use Rattle.opt_tables.specs.Facts.{IsModel, IsOffer, IsKilograms}
use Rattle.opt_network.specs.Numbering.{has_quantity}
use Rattle.opt_rows.proofs.UnitCosts.{units_are}
use Rattle.opt_rows.proofs.CostSizes.{units_small}
use Rattle.opt_rows.proofs.RowSizes.{within_append, within_one, small_within, coefficient-negation}

-- the other sign is as small
pub small_negation : (z h : ℤ) → IsSmallBy z h → IsSmallBy (neg_ℤ z) h
small_negation z h small =
    let same : unsigned_abs (neg_ℤ z) ≡ unsigned_abs z = omega (arith, ints) in
    rw same small

-- a goal's terms with the other sign, as in the rows of the budget and of a cap
pub goal_row_small : (t : Tables) → IsModel t → (goal : Goal) (q : Quantity) → has_quantity t q ≡ true → IsSmallBy (coefficient (negation (goal_terms t goal)) q) (high t q)
goal_row_small t model goal q exists =
    let is : coefficient (negation (goal_terms t goal)) q ≡ neg_ℤ (coefficient (goal_terms t goal) q) = coefficient-negation q 1 (goal_terms t goal) in
    rw (is, units_are t goal q exists) (small_negation _ (high t q) (units_small t model goal q exists).small)

module _ (t : Tables) (q : Quantity) (few : unsigned_abs (high t q) ≤ 2 ^ 40) where
  abbrev most_of : ℕ
  most_of = max (unsigned_abs (high t q)) 1

  -- an order is 0 or 1
  order_one : (o m : ℕ) → Order o m ≡ q → most_of ≡ 1
  order_one o m e = ap (λ (r : Quantity). max (unsigned_abs (high t r)) 1) (sym e)

  order_within : (o m : ℕ) (z : ℤ) (n : ℕ) → unsigned_abs z ≤ n → Order o m ≡ q → unsigned_abs z * most_of ≤ n
  order_within o m z n small e = rw (order_one o m e) (omega (arith, small))

  -- a purchase and an order, with a coefficient of 1 or -1 and one of kilograms
  lot_small : (o m : ℕ) (sign kilograms : ℤ) → unsigned_abs sign ≤ 1 → unsigned_abs kilograms ≤ 10 ^ 9 → IsSmallBy (coefficient ((Buy o m, sign) ∷ (Order o m, kilograms) ∷ []) q) (high t q)
  lot_small o m sign kilograms one small =
      small_within t q ((Buy o m, sign) ∷ (Order o m, kilograms) ∷ []) (2 ^ 40 + 10 ^ 9)
      (within_append q most_of ((Buy o m, sign) ∷ []) ((Order o m, kilograms) ∷ []) (2 ^ 40) (10 ^ 9)
      (within_one q most_of (Buy o m) sign (2 ^ 40) (λ e. unit_within (unsigned_abs sign) most_of one (omega (arith, few))))
      (within_one q most_of (Order o m) kilograms (10 ^ 9) (λ e. order_within o m kilograms (10 ^ 9) small e)))
      (omega arith)
    where
      unit_within : (a n : ℕ) → a ≤ 1 → n ≤ 2 ^ 40 → a * n ≤ 2 ^ 40
      unit_within zero n h k = omega arith
      unit_within (suc zero) n h k = omega arith
      unit_within (suc (suc a)) n h k = absurd (omega arith)

  pub lot_low_small : (o m : ℕ) (offer : Offer) → IsOffer t offer → IsSmallBy (coefficient ((Buy o m, pos 1) ∷ (Order o m, neg_ℤ offer.least) ∷ []) q) (high t q)
  lot_low_small o m offer fact = lot_small o m (pos 1) (neg_ℤ offer.least) (omega arith) (size_neg offer.least fact.least)
    where
      size_neg : (z : ℤ) → IsKilograms z → unsigned_abs (neg_ℤ z) ≤ 10 ^ 9
      size_neg z h = omega (arith, ints, h.above, h.below)

  pub lot_high_small : (o m : ℕ) (offer : Offer) → IsOffer t offer → IsSmallBy (coefficient ((Buy o m, neg_ℤ (pos 1)) ∷ (Order o m, offer.max_kg) ∷ []) q) (high t q)
  lot_high_small o m offer fact = lot_small o m (neg_ℤ (pos 1)) offer.max_kg (omega arith) (size offer.max_kg fact.max_kg)
    where
      size : (z : ℤ) → IsKilograms z → unsigned_abs z ≤ 10 ^ 9
      size z h = omega (arith, ints, h.above, h.below)
