-- Quantities that do not exist have no entries, so what has none in the plan can be left out of a row.
use Rattle.std.proofs.Common.{◌≡◌, ℕ, ◌+◌, ◌≤◌, ◌<◌, suc, Bool, true, false, cond, not, ◌&&◌, if◌then◌else◌, List, [], ◌∷◌, ◌++◌, length, count_by, position, Option, Some, None, ℤ, refl, sym, ap, ap₂, ◌∙◌, subst, arith}
use Rattle.std.specs.Prelude.{slice_get, nat_lt, nat_le}
use Rattle.std.specs.List.{flat_map, enumerate_from, range_with_len, position_or_len}
use Rattle.std.specs.Option.{option_map_or}
use Rattle.std.proofs.lemmas.Bool.{le-ltb, and_parts, false_from_ne_true}
use Rattle.std.proofs.lemmas.Bool.Decides.{nat_tests}
use Rattle.std.proofs.lemmas.List.Sums.{sum_by-cons}
use Rattle.opt_model.specs.Tables.{Tables}
use Rattle.opt_model.specs.Quantities.{over, over_months, list_if, same_quantity, is_offered}
use Rattle.opt_model.specs.Rows.{Terms}
use Rattle.opt_model.specs.declared.records.Offer.{Offer}
use Rattle.opt_model.specs.declared.records.Arc.{Arc}
use Rattle.opt_model.specs.declared.quantity.Quantity.{Quantity}
use Rattle.opt_model.specs.declared.quantity.Quantity.TheVariants.{Buy, Ship}
use Rattle.opt_network.specs.Numbering.{Numbering, IsLayoutOf, has_record, has_month, has_quantity}
use Rattle.opt_network.proofs.Once.{bit}
use Rattle.opt_rows.specs.Gathering.{entry_at, entries_of}
use Rattle.opt_rows.specs.Listed.{begins_in_plan, arrives_in_plan}
use Rattle.opt_rows.proofs.RowSteps.{entries_join}

-- ---- a list in which no element passes a test
all_fail : {X : Type 0} (p : X → Bool) (xs : List X) → count_by p xs ≡ 0 → position_or_len p xs ≡ length xs
all_fail p [] e = refl
all_fail p (y ∷ ys) e = by (p y) refl (all_fail p ys)
  where
    by : (b : Bool) → p y ≡ b → (count_by p ys ≡ 0 → position_or_len p ys ≡ length ys) → cond (not (p y)) (1 + position_or_len p ys) 0 ≡ suc (length ys)
    by true passes rest =
        let one : bit (p y) ≡ 1 = ap bit passes in
        absurd (omega (arith, sum_by-cons (λ x. cond (p x) 1 0) y ys, one, e))
    by false fails rest =
        let none : bit (p y) ≡ 0 = ap bit fails in
        let found : position_or_len p ys ≡ length ys = rest (omega (arith, sum_by-cons (λ x. cond (p x) 1 0) y ys, none, e)) in
        ap (λ b. cond (not b) (1 + position_or_len p ys) 0) fails ∙ omega (arith, found)

no_position : {X : Type 0} (p : X → Bool) (xs : List X) → count_by p xs ≡ 0 → position p xs ≡ None
no_position p xs e =
    ap (λ n. cond (nat_lt n (length xs)) (Some n) None) (all_fail p xs e)
    ∙ ap (λ b. cond b (Some (length xs)) None) (le-ltb (length xs) (length xs) (omega arith))

-- ---- a quantity that does not exist
pub no_entry : (t : Tables) (layout : Numbering) → IsLayoutOf t layout → (q : Quantity) (z : ℤ) → has_quantity t q ≡ false → entries_of layout.quantities ((q, z) ∷ []) ≡ []
no_entry t layout is q z none =
    ap (λ o. entry_at o z ++ []) (no_position (same_quantity q) layout.quantities (is.once q ∙ ap (λ (b : Bool). if b then 1 else 0) none))

-- what nothing can be bought of in the plan
pub no_purchase : (t : Tables) (o m : ℕ) (offer : Offer) → slice_get t.offers o ≡ Some offer → begins_in_plan t offer ≡ false → has_quantity t (Buy o m) ≡ false
no_purchase t o m offer there late =
    ap (λ (r : Option Offer). option_map_or (λ r. is_offered r m) r false && has_month t m) there
    ∙ false_from_ne_true (is_offered offer m && has_month t m)
    (λ e.
    let parts = and_parts (is_offered offer m) (has_month t m) e in
    let first = and_parts (nat_le offer.first m) (nat_le m offer.last) parts.0 in
    let within = and_parts (nat_le 1 m) (nat_le m t.settings.months) parts.1 in
    none_bought first.0 within.1)
  where
    none_bought : nat_le offer.first m ≡ true → nat_le m t.settings.months ≡ true → ⊥
    none_bought begun within = grind (arith, nat_tests)

-- what nothing can leave on in the plan
pub no_shipment : (t : Tables) (a c m : ℕ) (arc : Arc) → slice_get t.arcs a ≡ Some arc → arrives_in_plan t arc ≡ false → has_quantity t (Ship a c m) ≡ false
no_shipment t a c m arc there late =
    ap (λ (r : Option Arc). option_map_or (λ r. nat_le (m + r.lead) t.settings.months) r false && (has_record t.commodities c && has_month t m)) there
    ∙ false_from_ne_true (nat_le (m + arc.lead) t.settings.months && (has_record t.commodities c && has_month t m))
    (λ e.
    let parts = and_parts (nat_le (m + arc.lead) t.settings.months) (has_record t.commodities c && has_month t m) e in
    let rest = and_parts (has_record t.commodities c) (has_month t m) parts.1 in
    let within = and_parts (nat_le 1 m) (nat_le m t.settings.months) rest.1 in
    none_sent parts.0 within.0)
  where
    none_sent : nat_le (m + arc.lead) t.settings.months ≡ true → nat_le 1 m ≡ true → ⊥
    none_sent arrived first = grind (arith, nat_tests)

-- ---- terms without entries
module _ (qs : List Quantity) where
  -- parts that have the same entries
  module _ {A : Type 0} (f g : ℕ → A → Terms) where
    same_from : (k : ℕ) (xs : List A) → ((j : ℕ) (x : A) → slice_get xs j ≡ Some x → entries_of qs (f (k + j) x) ≡ entries_of qs (g (k + j) x))
        → entries_of qs (flat_map (λ r. f r.0 r.1) (enumerate_from k xs)) ≡ entries_of qs (flat_map (λ r. g r.0 r.1) (enumerate_from k xs))
    same_from k [] same = refl
    same_from k (x ∷ xs) same =
        let start : k + 0 ≡ k = omega arith in
        let here : entries_of qs (f k x) ≡ entries_of qs (g k x) = subst (λ (n : ℕ). entries_of qs (f n x) ≡ entries_of qs (g n x)) start (same 0 x refl) in
        entries_join qs (f k x) (flat_map (λ r. f r.0 r.1) (enumerate_from (k + 1) xs))
        ∙ (ap₂ (λ (a b : List (ℕ × ℤ)). a ++ b) here (same_from (k + 1) xs later)
        ∙ sym (entries_join qs (g k x) (flat_map (λ r. g r.0 r.1) (enumerate_from (k + 1) xs))))
      where
        later : (j : ℕ) (y : A) → slice_get xs j ≡ Some y → entries_of qs (f ((k + 1) + j) y) ≡ entries_of qs (g ((k + 1) + j) y)
        later j y there =
            let next : k + suc j ≡ (k + 1) + j = omega arith in
            subst (λ (n : ℕ). entries_of qs (f n y) ≡ entries_of qs (g n y)) next (same (suc j) y there)

    pub same_over : (xs : List A) → ((j : ℕ) (x : A) → slice_get xs j ≡ Some x → entries_of qs (f j x) ≡ entries_of qs (g j x)) → entries_of qs (over xs f) ≡ entries_of qs (over xs g)
    same_over xs same =
        same_from 0 xs (λ j x there. let number : j ≡ 0 + j = omega arith in subst (λ (n : ℕ). entries_of qs (f n x) ≡ entries_of qs (g n x)) number (same j x there))

  -- a part that is left out where it has no entries
  pub one_left_out : (a b : Bool) (terms : Terms) → (b ≡ false → entries_of qs terms ≡ []) → entries_of qs (list_if (a && b) terms) ≡ entries_of qs (list_if a terms)
  one_left_out false b terms none = refl
  one_left_out true true terms none = refl
  one_left_out true false terms none = sym (none refl)

  pub two_left_out : (a b c : Bool) (terms : Terms) → (b ≡ false → entries_of qs terms ≡ [])
      → entries_of qs (list_if (a && b) (list_if c terms)) ≡ entries_of qs (list_if (a && c) terms)
  two_left_out false b c terms none = refl
  two_left_out true true c terms none = refl
  two_left_out true false true terms none = sym (none refl)
  two_left_out true false false terms none = refl

  -- parts without entries
  pub none_flat : {X : Type 0} (f : X → Terms) (xs : List X) → ((x : X) → entries_of qs (f x) ≡ []) → entries_of qs (flat_map f xs) ≡ []
  none_flat f [] none = refl
  none_flat f (x ∷ xs) none = entries_join qs (f x) (flat_map f xs) ∙ ap₂ (λ (a b : List (ℕ × ℤ)). a ++ b) (none x) (none_flat f xs none)

-- all that leaves on an arc on which nothing can leave
pub no_shipments : (t : Tables) (layout : Numbering) → IsLayoutOf t layout → (a : ℕ) (arc : Arc) (z : ℤ) → slice_get t.arcs a ≡ Some arc → arrives_in_plan t arc ≡ false
    → entries_of layout.quantities (over t.commodities λ c _. over_months t λ m. (Ship a c m, z) ∷ []) ≡ []
no_shipments t layout is a arc z there late =
    none_flat layout.quantities (λ r. over_months t λ m. (Ship a r.0 m, z) ∷ []) (enumerate_from 0 t.commodities)
    (λ r.
    none_flat layout.quantities (λ m. (Ship a r.0 m, z) ∷ []) (range_with_len 1 t.settings.months)
    (λ m. no_entry t layout is (Ship a r.0 m) z (no_shipment t a r.0 m arc there late)))
