-- The coefficients of each row of a model add up, number by number, to what fits 64 bits.
use Rattle.std.proofs.Common.{◌≡◌, ◌≢◌, inl, inr, ℕ, ◌*◌, ◌^◌, ◌≤◌, ◌<◌, max, List, [], ◌∷◌, ◌++◌, length, get_or, Option, Some, None, ℤ, pos, neg_ℤ, unsigned_abs, ap, sym, ◌∙◌, subst, arith}
use Rattle.std.specs.Prelude.{position}
use Rattle.std.proofs.lemmas.Int.{ints}
use Rattle.std.proofs.lemmas.Bool.{cases_lt}
use Rattle.std.proofs.lemmas.List.Elements.{All-weaker}
use Rattle.std.proofs.Math.Nat.{le-mul_of_pos_right}
use Rattle.opt_sums.specs.Entries.{coef}
use Rattle.opt_sums.proofs.EntryLemmas.{coef-append, coef-none, one_same, one_other, same_or_other}
use Rattle.opt_sums.proofs.Ring.{size_add}
use Rattle.opt_model.specs.Tables.{Tables}
use Rattle.opt_model.specs.Quantities.{over, quantities, low, high, same_quantity}
use Rattle.opt_model.specs.Rows.{Terms, coefficient, negation, nutrient_terms, group_terms, handed_terms, bought_terms, arrived_terms, kept_terms, sent_terms, cost_terms, lack_terms}
use Rattle.opt_model.specs.declared.records.Goal.TheVariants.{Cost, Shortfall}
use Rattle.opt_model.specs.declared.quantity.Quantity.{Quantity}
use Rattle.opt_model.specs.declared.quantity.Quantity.TheVariants.{Ration, Short, Ship, Keep, Feed}
use Rattle.opt_system.specs.Systems.{IsSmallBy}
use Rattle.opt_tables.specs.Facts.{IsModel}
use Rattle.opt_network.specs.Numbering.{Numbering, IsLayoutOf, IsSpan}
use Rattle.opt_network.proofs.Ranges.{span_within}
use Rattle.opt_rows.specs.Gathering.{entry_at, entries_of, HasShortSums}
use Rattle.opt_rows.proofs.CostSizes.{exists_at}
use Rattle.opt_rows.proofs.Distinct.{quantities_distinct}
use Rattle.opt_rows.proofs.Gathering.{entries_at, entries_below}
use Rattle.opt_rows.proofs.RowSizes.{coefficient-negation, balance_small, arc_small, storage_small, throughput_small}
use Rattle.opt_rows.proofs.RowLimits.{goal_row_small}
use Rattle.opt_rows.proofs.RowRations.{group_small, handout_low_small, handout_high_small}
use Rattle.opt_rows.proofs.RowNutrients.{nutrient_small}
use Rattle.opt_rows.proofs.RowsSmall.{AreSmallTerms}

-- ---- small terms have short sums
-- a number that is small for any quantity
short_by : (z h : ℤ) → IsSmallBy z h → unsigned_abs z < 2 ^ 63
short_by z h small =
    let some : 0 < max (unsigned_abs h) 1 = omega arith in
    let up : unsigned_abs z ≤ unsigned_abs z * max (unsigned_abs h) 1 = le-mul_of_pos_right (unsigned_abs z) some in
    omega (arith, small, up)

-- no value of a quantity of a model is above 2^40
pub high_few : (t : Tables) → IsModel t → (q : Quantity) → unsigned_abs (high t q) ≤ 2 ^ 40
high_few t model q = by (low t q) (high t q) (span_within t model q)
  where
    by : (l h : ℤ) → IsSpan l h → unsigned_abs h ≤ 2 ^ 40
    by l h span = omega (arith, ints, span.from_zero, span.rising, span.small)

pub short_sums : (t : Tables) (layout : Numbering) (terms : Terms) → IsModel t → IsLayoutOf t layout → AreSmallTerms t terms → HasShortSums (entries_of layout.quantities terms)
short_sums t layout terms model is small =
    let same : layout.quantities ≡ quantities t = ap (λ (l : Numbering). l.quantities) is.same in
    subst (λ (qs : List Quantity). HasShortSums (entries_of qs terms)) (sym same) by_number
  where
    by_number : HasShortSums (entries_of (quantities t) terms)
    by_number k =
        elim (cases_lt k (length (quantities t))) [
          | inl h ↦
              let within : k < length (quantities t) = h in
              let q : Quantity = get_or (quantities t) k (Ration 0 0 0) in
              rw (entries_at (quantities t) terms k (Ration 0 0 0) (quantities_distinct t) within)
              (short_by (coefficient terms q) (high t q) (small q (exists_at t k (Ration 0 0 0) within) (high_few t model q)))
          | inr h ↦
              let past : length (quantities t) ≤ k = h in
              rw (coef-none (entries_of (quantities t) terms) k
              (All-weaker (λ a. a.0 < length (quantities t)) (λ a. a.0 ≢ k) (λ a below. omega arith) (entries_of (quantities t) terms) (entries_below (quantities t) terms)))
              (omega (arith, ints))
        ]

-- entries that are those of small terms
pub short_of : (t : Tables) (layout : Numbering) (terms : Terms) (entries : List (ℕ × ℤ)) → IsModel t → IsLayoutOf t layout → AreSmallTerms t terms
    → entries ≡ entries_of layout.quantities terms → HasShortSums entries
short_of t layout terms entries model is small e = subst HasShortSums (sym e) (short_sums t layout terms model is small)

-- entries of small terms, which were added to none
pub short_first : (t : Tables) (layout : Numbering) (terms : Terms) (start entries : List (ℕ × ℤ)) → IsModel t → IsLayoutOf t layout → AreSmallTerms t terms → start ≡ []
    → entries ≡ start ++ entries_of layout.quantities terms → HasShortSums entries
short_first t layout terms start entries model is small none e =
    short_of t layout terms entries model is small (e ∙ ap (λ (es : List (ℕ × ℤ)). es ++ entries_of layout.quantities terms) none)

-- ---- the terms of each row are small
-- terms are as small as with the other sign
pub small_other_sign : (t : Tables) (terms : Terms) → AreSmallTerms t (negation terms) → AreSmallTerms t terms
small_other_sign t terms small q exists few =
    by (coefficient terms q) (coefficient (negation terms) q) (high t q) (coefficient-negation q 1 terms) (small q exists few)
  where
    by : (z y h : ℤ) → y ≡ neg_ℤ z → IsSmallBy y h → IsSmallBy z h
    by z y h e small =
        let same : unsigned_abs z ≡ unsigned_abs y = omega (arith, ints, e) in
        rw same small

module _ (t : Tables) (model : IsModel t) where
  pub nutrient_terms_small : (basket nutrient need month : ℕ) → AreSmallTerms t (nutrient_terms t basket nutrient month ++ (Short need month, pos 100) ∷ [])
  nutrient_terms_small basket nutrient need month q exists few = nutrient_small t model q few basket nutrient need month

  pub group_terms_small : (basket group month : ℕ) → AreSmallTerms t (group_terms t basket group month)
  group_terms_small basket group month q exists few = group_small t model q basket group month

  pub handout_low_terms_small : (place commodity month : ℕ) → AreSmallTerms t ((Feed place commodity month, pos 1000) ∷ negation (handed_terms t place commodity month))
  handout_low_terms_small place commodity month q exists few = handout_low_small t model q exists few place commodity month

  pub handout_high_terms_small : (place commodity month : ℕ) → AreSmallTerms t ((Feed place commodity month, neg_ℤ (pos 1000)) ∷ handed_terms t place commodity month)
  handout_high_terms_small place commodity month q exists few = handout_high_small t model q exists few place commodity month

  pub cost_terms_small : AreSmallTerms t (cost_terms t)
  cost_terms_small = small_other_sign t (cost_terms t) (λ q exists few. goal_row_small t model Cost q exists)

  pub lack_terms_small : AreSmallTerms t (lack_terms t)
  lack_terms_small = small_other_sign t (lack_terms t) (λ q exists few. goal_row_small t model Shortfall q exists)

pub balance_terms_small : (t : Tables) (place commodity month : ℕ) → AreSmallTerms t (bought_terms t place commodity month
    ++ (arrived_terms t place commodity month
    ++ (kept_terms place commodity month
    ++ (negation (sent_terms t place commodity month) ++ (Keep place commodity month, neg_ℤ (pos 1)) ∷ (Feed place commodity month, neg_ℤ (pos 1)) ∷ []))))
balance_terms_small t place commodity month q exists few = balance_small t q few place commodity month

pub arc_terms_small : (t : Tables) (arc month : ℕ) → AreSmallTerms t (over t.commodities λ c _. (Ship arc c month, pos 1) ∷ [])
arc_terms_small t arc month = small_other_sign t (over t.commodities λ c _. (Ship arc c month, pos 1) ∷ []) (λ q exists few. arc_small t q few arc month)

pub storage_terms_small : (t : Tables) (place month : ℕ) → AreSmallTerms t (over t.commodities λ c _. (Keep place c month, pos 1) ∷ [])
storage_terms_small t place month = small_other_sign t (over t.commodities λ c _. (Keep place c month, pos 1) ∷ []) (λ q exists few. storage_small t q few place month)

pub throughput_terms_small : (t : Tables) (place month : ℕ) → AreSmallTerms t (over t.commodities λ c _. arrived_terms t place c month)
throughput_terms_small t place month = small_other_sign t (over t.commodities λ c _. arrived_terms t place c month) (λ q exists few. throughput_small t q few place month)

-- ---- the two terms of a lot
one_short : (qs : List Quantity) (term : Quantity × ℤ) (k : ℕ) → unsigned_abs (coef (entries_of qs (term ∷ [])) k) ≤ unsigned_abs term.1
one_short qs term k = by (position (same_quantity term.0) qs)
  where
    by : (o : Option ℕ) → unsigned_abs (coef (entry_at o term.1 ++ []) k) ≤ unsigned_abs term.1
    by None = omega (arith, ints)
    by (Some i) =
        elim (same_or_other i k) [
          | inl h ↦ let same : i ≡ k = h in omega (arith, ints, one_same i k term.1 same)
          | inr h ↦ let other : i ≢ k = h in omega (arith, ints, one_other i k term.1 other)
        ]

-- two terms of at most 10^9, which were added to none
pub pair_short : (qs : List Quantity) (a c : Quantity × ℤ) (n0 n1 n2 : List (ℕ × ℤ)) → n0 ≡ [] → n1 ≡ n0 ++ entries_of qs (a ∷ []) → n2 ≡ n1 ++ entries_of qs (c ∷ [])
    → unsigned_abs a.1 ≤ 10 ^ 9 → unsigned_abs c.1 ≤ 10 ^ 9 → HasShortSums n2
pair_short qs a c n0 n1 n2 e0 e1 e2 first second = subst HasShortSums (sym is) both
  where
    is : n2 ≡ entries_of qs (a ∷ []) ++ entries_of qs (c ∷ [])
    is = e2 ∙ ap (λ (es : List (ℕ × ℤ)). es ++ entries_of qs (c ∷ [])) (e1 ∙ ap (λ (es : List (ℕ × ℤ)). es ++ entries_of qs (a ∷ [])) e0)

    both : HasShortSums (entries_of qs (a ∷ []) ++ entries_of qs (c ∷ []))
    both k =
        let x : ℤ = coef (entries_of qs (a ∷ [])) k in
        let y : ℤ = coef (entries_of qs (c ∷ [])) k in
        rw (coef-append (entries_of qs (a ∷ [])) (entries_of qs (c ∷ [])) k) (omega (arith, size_add x y, one_short qs a k, one_short qs c k, first, second))
