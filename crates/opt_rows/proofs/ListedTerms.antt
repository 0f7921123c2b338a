-- Terms of what was listed before, terms that a row has only where something holds, and rows of terms that were the first ones.
use Rattle.std.proofs.Common.{◌≡◌, ℕ, ◌+◌, ◌<◌, Bool, true, false, ◌&&◌, ◌==◌, List, [], ◌∷◌, ◌++◌, length, take, get_or, map, ℤ, pos, neg_ℤ, refl, sym, ap, ◌∙◌, subst, append_assoc, append-nil}
use Rattle.std.specs.Prelude.{◌-◌, nat_lt}
use Rattle.std.specs.List.{flat_map, enumerate_from}
use Rattle.std.proofs.lemmas.List.{map-append, take_more}
use Rattle.std.proofs.lemmas.Grind.{flat_map-append}
use mathlib.Core.Path.{fun_ext}
use Rattle.opt_model.specs.Tables.{Tables}
use Rattle.opt_model.specs.Quantities.{over, list_if}
use Rattle.opt_model.specs.Rows.{Terms, at_least, equal, at_least_row, equal_row, negation, is_in_group, nutrient_terms, group_terms, bought_terms, arrived_terms, sent_terms}
use Rattle.opt_model.specs.declared.records.Arc.{Arc}
use Rattle.opt_model.specs.declared.quantity.Quantity.{Quantity}
use Rattle.opt_model.specs.declared.quantity.Quantity.TheVariants.{Ration, Buy, Ship}
use Rattle.opt_model.specs.declared.quantity.RowName.{RowName}
use Rattle.opt_network.specs.Numbering.{Numbering, IsLayoutOf}
use Rattle.opt_rows.specs.Gathering.{entries_of, AddsRow}
use Rattle.opt_rows.specs.Listed.{step_content_of, step_contents, member_of, members_of, begins_in_plan, arrives_in_plan, sale_of, sales_at, offers_of, way_of, arrivals_at, departures_from}
use Rattle.opt_rows.specs.Systems.{SystemRow, row_over}
use Rattle.opt_rows.proofs.Absent.{no_entry, no_purchase, no_shipment, same_over, one_left_out, two_left_out}
use Rattle.opt_rows.proofs.RowSteps.{term_is, entries_join, number_terms}

-- ---- terms one after another
-- a term of this quantity and coefficient
pub term_added : (qs : List Quantity) (now new : List (ℕ × ℤ)) (c : Quantity × ℤ) (q : Quantity) (z : ℤ) → c.0 ≡ q → c.1 ≡ z
    → new ≡ now ++ entries_of qs (c ∷ []) → new ≡ now ++ entries_of qs ((q, z) ∷ [])
term_added qs now new c q z quantity coefficient added =
    added ∙ ap (λ (d : Quantity × ℤ). now ++ entries_of qs (d ∷ [])) (term_is c q z quantity coefficient)

-- terms after terms
pub both_terms : (qs : List Quantity) (xs ys : Terms) (old now new : List (ℕ × ℤ)) → now ≡ old ++ entries_of qs xs → new ≡ now ++ entries_of qs ys
    → new ≡ old ++ entries_of qs (xs ++ ys)
both_terms qs xs ys old now new first second =
    second ∙ (ap (λ e. e ++ entries_of qs ys) first ∙ (append_assoc old (entries_of qs xs) (entries_of qs ys) ∙ ap (λ e. old ++ e) (sym (entries_join qs xs ys))))

-- five lists of terms one after another
pub five_terms : (qs : List Quantity) (a1 a2 a3 a4 a5 : Terms) (n0 n1 n2 n3 n4 n5 : List (ℕ × ℤ)) → n1 ≡ n0 ++ entries_of qs a1 → n2 ≡ n1 ++ entries_of qs a2
    → n3 ≡ n2 ++ entries_of qs a3 → n4 ≡ n3 ++ entries_of qs a4 → n5 ≡ n4 ++ entries_of qs a5 → n5 ≡ n0 ++ entries_of qs (a1 ++ (a2 ++ (a3 ++ (a4 ++ a5))))
five_terms qs a1 a2 a3 a4 a5 n0 n1 n2 n3 n4 n5 e1 e2 e3 e4 e5 =
    both_terms qs a1 (a2 ++ (a3 ++ (a4 ++ a5))) n0 n1 n5 e1
    (both_terms qs a2 (a3 ++ (a4 ++ a5)) n1 n2 n5 e2
    (both_terms qs a3 (a4 ++ a5) n2 n3 n5 e3
    (both_terms qs a4 a5 n3 n4 n5 e4 e5)))

-- other terms that are the same
pub same_terms : (qs : List Quantity) (xs ys : Terms) (old new : List (ℕ × ℤ)) → xs ≡ ys → new ≡ old ++ entries_of qs xs → new ≡ old ++ entries_of qs ys
same_terms qs xs ys old new same added = added ∙ ap (λ ts. old ++ entries_of qs ts) same

-- other terms with the same entries
pub same_entries : (qs : List Quantity) (xs ys : Terms) (old new : List (ℕ × ℤ)) → entries_of qs xs ≡ entries_of qs ys → new ≡ old ++ entries_of qs xs → new ≡ old ++ entries_of qs ys
same_entries qs xs ys old new same added = added ∙ ap (λ (es : List (ℕ × ℤ)). old ++ es) same

-- the row of terms that were the first ones
pub row_added : (qs : List Quantity) (name : RowName) (terms : Terms) (right : ℤ) (start entries : List (ℕ × ℤ)) (old new : List SystemRow) → start ≡ []
    → entries ≡ start ++ entries_of qs terms → AddsRow qs entries at_least right old new → new ≡ old ++ map (row_over qs) (at_least_row name terms right)
row_added qs name terms right start entries old new none is added = added terms (is ∙ ap (λ e. e ++ entries_of qs terms) none)

-- the same where the right side is another number that is the same
pub row_added_at : (qs : List Quantity) (name : RowName) (terms : Terms) (right other : ℤ) (start entries : List (ℕ × ℤ)) (old new : List SystemRow) → start ≡ []
    → entries ≡ start ++ entries_of qs terms → other ≡ right → AddsRow qs entries at_least other old new → new ≡ old ++ map (row_over qs) (at_least_row name terms right)
row_added_at qs name terms right other start entries old new none is same added =
    row_added qs name terms right start entries old new none is (subst (λ (z : ℤ). AddsRow qs entries at_least z old new) same added)

pub equal_added_at : (qs : List Quantity) (name : RowName) (terms : Terms) (right other : ℤ) (start entries : List (ℕ × ℤ)) (old new : List SystemRow) → start ≡ []
    → entries ≡ start ++ entries_of qs terms → other ≡ right → AddsRow qs entries equal other old new → new ≡ old ++ map (row_over qs) (equal_row name terms right)
equal_added_at qs name terms right other start entries old new none is same added =
    (subst (λ (z : ℤ). AddsRow qs entries equal z old new) same added) terms (is ∙ ap (λ e. e ++ entries_of qs terms) none)

-- ---- terms of a list, one by one
flat-more : {X Y : Type 0} (f : X → List Y) (xs : List X) (i : ℕ) (x : X) → i < length xs → x ≡ get_or xs i x → flat_map f (take (i + 1) xs) ≡ flat_map f (take i xs) ++ f x
flat-more f xs i x lt read =
    ap (flat_map f) (take_more xs i x lt)
    ∙ (flat_map-append f (take i xs) (get_or xs i x ∷ [])
    ∙ ap (λ ys. flat_map f (take i xs) ++ ys) (append-nil (f (get_or xs i x)) ∙ ap f (sym read)))

pub listed_terms : {X : Type 0} (qs : List Quantity) (old now new : List (ℕ × ℤ)) (f : X → Terms) (xs : List X) (i : ℕ) (x : X) → i < length xs → x ≡ get_or xs i x
    → now ≡ old ++ entries_of qs (flat_map f (take i xs)) → new ≡ now ++ entries_of qs (f x) → new ≡ old ++ entries_of qs (flat_map f (take (i + 1) xs))
listed_terms qs old now new f xs i x lt read so_far added =
    both_terms qs (flat_map f (take i xs)) (f x) old now new so_far added ∙ ap (λ ts. old ++ entries_of qs ts) (sym (flat-more f xs i x lt read))

-- ---- what was listed where a test holds
module _ {R X Y : Type 0} (f : X → List Y) (test : R → Bool) (pick : R → X) where
  flat-listed : (rs : List R) → flat_map f (flat_map (λ r. list_if (test r) (pick r ∷ [])) rs) ≡ flat_map (λ r. list_if (test r) (f (pick r))) rs
  flat-listed [] = refl
  flat-listed (r ∷ rs) =
      flat_map-append f (list_if (test r) (pick r ∷ [])) (flat_map (λ s. list_if (test s) (pick s ∷ [])) rs)
      ∙ (ap (λ ys. ys ++ flat_map f (flat_map (λ s. list_if (test s) (pick s ∷ [])) rs)) (by (test r))
      ∙ ap (λ ys. list_if (test r) (f (pick r)) ++ ys) (flat-listed rs))
    where
      by : (b : Bool) → flat_map f (list_if b (pick r ∷ [])) ≡ list_if b (f (pick r))
      by true = append-nil (f (pick r))
      by false = refl

pub over_listed : {A X Y : Type 0} (f : X → List Y) (test : A → Bool) (pick : ℕ → A → X) (xs : List A)
    → flat_map f (over xs (λ j x. list_if (test x) (pick j x ∷ []))) ≡ over xs (λ j x. list_if (test x) (f (pick j x)))
over_listed f test pick xs = flat-listed f (λ r. test r.1) (λ r. pick r.0 r.1) (enumerate_from 0 xs)

-- what each record adds, whatever its number
flat-from : {A X : Type 0} (f : A → List X) (k : ℕ) (xs : List A) → flat_map (λ r. f r.1) (enumerate_from k xs) ≡ flat_map f xs
flat-from f k [] = refl
flat-from f k (x ∷ xs) = ap (λ ys. f x ++ ys) (flat-from f (k + 1) xs)

over_flat : {A X : Type 0} (f : A → List X) (xs : List A) → over xs (λ _ x. f x) ≡ flat_map f xs
over_flat f xs = flat-from f 0 xs

-- ---- terms with the other sign
negation-flat : {R : Type 0} (h : R → Terms) (rs : List R) → negation (flat_map h rs) ≡ flat_map (λ r. negation (h r)) rs
negation-flat h [] = refl
negation-flat h (r ∷ rs) =
    map-append (λ (term : Quantity × ℤ). (term.0, neg_ℤ term.1)) (h r) (flat_map h rs) ∙ ap (λ ts. negation (h r) ++ ts) (negation-flat h rs)

negation-if : (b : Bool) (terms : Terms) → negation (list_if b terms) ≡ list_if b (negation terms)
negation-if true terms = refl
negation-if false terms = refl

pub number_negated : {X : Type 0} (qs : List Quantity) (old now new : List (ℕ × ℤ)) (f : ℕ → Terms) (xs : List X) (i : ℕ) → i < length xs
    → now ≡ old ++ entries_of qs (negation (over (take i xs) (λ n _. f n))) → new ≡ now ++ entries_of qs (negation (f i))
    → new ≡ old ++ entries_of qs (negation (over (take (i + 1) xs) (λ n _. f n)))
number_negated qs old now new f xs i lt so_far added =
    number_terms qs old now new (λ n. negation (f n)) xs i lt (so_far ∙ ap (λ ts. old ++ entries_of qs ts) (negation-flat (λ r. f r.0) (enumerate_from 0 (take i xs)))) added
    ∙ ap (λ ts. old ++ entries_of qs ts) (sym (negation-flat (λ r. f r.0) (enumerate_from 0 (take (i + 1) xs))))

-- ---- the lists of this crate
-- what a basket gives of a nutrient
pub nutrient_listed : (t : Tables) (basket nutrient month : ℕ)
    → flat_map (λ r. (Ration basket r.commodity month, r.units) ∷ []) (step_contents t nutrient) ≡ nutrient_terms t basket nutrient month
nutrient_listed t basket nutrient month = over_listed (λ r. (Ration basket r.commodity month, r.units) ∷ []) (λ r. r.nutrient == nutrient) (λ _ r. step_content_of t r) t.contents

-- the grams of a group's commodities
pub group_listed : (t : Tables) (basket group month : ℕ) → flat_map (λ r. (Ration basket r.commodity month, r.step_g) ∷ []) (members_of t group) ≡ group_terms t basket group month
group_listed t basket group month = over_listed (λ r. (Ration basket r.commodity month, r.step_g) ∷ []) (λ r. is_in_group r.group group) (λ c r. member_of c r) t.commodities

-- the entries of what is bought, and of what arrives and leaves, from the lists without what has no quantity in the plan
module _ (t : Tables) (layout : Numbering) (is : IsLayoutOf t layout) where
  abbrev entries : Terms → List (ℕ × ℤ)
  entries terms = entries_of layout.quantities terms

  sold_listed : (place commodity month : ℕ)
      → entries (flat_map (λ sale. list_if (sale.commodity == commodity) ((Buy sale.offer month, pos 1) ∷ [])) (sales_at t place)) ≡ entries (bought_terms t place commodity month)
  sold_listed place commodity month =
      ap entries (over_listed (λ sale. list_if (sale.commodity == commodity) ((Buy sale.offer month, pos 1) ∷ [])) (λ offer. (offer.place == place) && begins_in_plan t offer) (λ o offer. sale_of o offer) t.offers)
      ∙ same_over layout.quantities (λ o offer. list_if ((offer.place == place) && begins_in_plan t offer) (list_if (offer.commodity == commodity) ((Buy o month, pos 1) ∷ [])))
      (λ o offer. list_if ((offer.place == place) && (offer.commodity == commodity)) ((Buy o month, pos 1) ∷ [])) t.offers
      (λ o offer there.
      two_left_out layout.quantities (offer.place == place) (begins_in_plan t offer) (offer.commodity == commodity) ((Buy o month, pos 1) ∷ [])
      (λ late. no_entry t layout is (Buy o month) (pos 1) (no_purchase t o month offer there late)))

  pub bought_listed : (place commodity month : ℕ) → entries (flat_map (λ o. (Buy o month, pos 1) ∷ []) (offers_of (sales_at t place) commodity)) ≡ entries (bought_terms t place commodity month)
  bought_listed place commodity month =
      ap entries (over_listed (λ o. (Buy o month, pos 1) ∷ []) (λ sale. sale.commodity == commodity) (λ _ sale. sale.offer) (sales_at t place)
      ∙ over_flat (λ sale. list_if (sale.commodity == commodity) ((Buy sale.offer month, pos 1) ∷ [])) (sales_at t place))
      ∙ sold_listed place commodity month

  pub arrived_listed : (place commodity month : ℕ)
      → entries (flat_map (λ way. list_if (nat_lt way.lead month) ((Ship way.arc commodity (month - way.lead), pos 1) ∷ [])) (arrivals_at t place)) ≡ entries (arrived_terms t place commodity month)
  arrived_listed place commodity month =
      ap entries (over_listed (λ way. list_if (nat_lt way.lead month) ((Ship way.arc commodity (month - way.lead), pos 1) ∷ [])) (λ arc. (arc.to_place == place) && arrives_in_plan t arc) (λ a arc. way_of a arc) t.arcs)
      ∙ same_over layout.quantities (λ a arc. list_if ((arc.to_place == place) && arrives_in_plan t arc) (list_if (nat_lt arc.lead month) ((Ship a commodity (month - arc.lead), pos 1) ∷ [])))
      (λ a arc. list_if ((arc.to_place == place) && nat_lt arc.lead month) ((Ship a commodity (month - arc.lead), pos 1) ∷ [])) t.arcs
      (λ a arc there.
      two_left_out layout.quantities (arc.to_place == place) (arrives_in_plan t arc) (nat_lt arc.lead month) ((Ship a commodity (month - arc.lead), pos 1) ∷ [])
      (λ late. no_entry t layout is (Ship a commodity (month - arc.lead)) (pos 1) (no_shipment t a commodity (month - arc.lead) arc there late)))

  pub sent_listed : (place commodity month : ℕ)
      → entries (flat_map (λ way. (Ship way.arc commodity month, neg_ℤ (pos 1)) ∷ []) (departures_from t place)) ≡ entries (negation (sent_terms t place commodity month))
  sent_listed place commodity month =
      let kept : ℕ × Arc → Terms = λ r. list_if (r.1.from_place == place) ((Ship r.0 commodity month, pos 1) ∷ []) in
      let signs : over t.arcs (λ a arc. list_if (arc.from_place == place) ((Ship a commodity month, neg_ℤ (pos 1)) ∷ [])) ≡ flat_map (λ r. negation (kept r)) (enumerate_from 0 t.arcs) =
      ap (λ g. flat_map g (enumerate_from 0 t.arcs)) (fun_ext (λ r. sym (negation-if (r.1.from_place == place) ((Ship r.0 commodity month, pos 1) ∷ [])))) in
      ap entries (over_listed (λ way. (Ship way.arc commodity month, neg_ℤ (pos 1)) ∷ []) (λ arc. (arc.from_place == place) && arrives_in_plan t arc) (λ a arc. way_of a arc) t.arcs)
      ∙ (same_over layout.quantities (λ a arc. list_if ((arc.from_place == place) && arrives_in_plan t arc) ((Ship a commodity month, neg_ℤ (pos 1)) ∷ []))
      (λ a arc. list_if (arc.from_place == place) ((Ship a commodity month, neg_ℤ (pos 1)) ∷ [])) t.arcs
      (λ a arc there.
      one_left_out layout.quantities (arc.from_place == place) (arrives_in_plan t arc) ((Ship a commodity month, neg_ℤ (pos 1)) ∷ [])
      (λ late. no_entry t layout is (Ship a commodity month) (neg_ℤ (pos 1)) (no_shipment t a commodity month arc there late)))
      ∙ ap entries (signs ∙ sym (negation-flat kept (enumerate_from 0 t.arcs))))
