-- Amounts that are added one by one, the first of a spot staying.
use Rattle.std.proofs.Common.{◌≡◌, ℕ, ◌+◌, ◌<◌, Bool, true, false, cond, List, [], ◌∷◌, ◌++◌, length, get_or, take, Option, Some, None, refl, sym, ap, ap₂, inl, inr, ◌∙◌, arith, add-one, eq-eqb}
use Rattle.std.specs.Prelude.{◌&&◌, ◌==◌, option_map, is_some}
use Rattle.std.specs.List.{find}
use Rattle.std.specs.Map.{lookup}
use Rattle.std.specs.Option.{option_or}
use Rattle.std.proofs.Math.Seq.{take-suc}
use Rattle.std.proofs.lemmas.Bool.{and_parts, eqb-true, cases_Bool, both_ways, false_from_ne_true, cond-true, cond-false}
use Rattle.std.proofs.Math.Bool.{and_assoc}
use Rattle.std.proofs.lemmas.List.Folds.{find-append}
use Rattle.indexmap.specs.IndexMap.{insert_entry}
use Rattle.opt_tables.specs.contracts.amounts.SpotPartialEq.TheImpl as equality
use Rattle.opt_tables.specs.Amounts.{Entries, is_spot, amount_at, with_amount, AreAmounts}
use Rattle.opt_tables.specs.declared.amounts.Spot.{Spot}
use Rattle.opt_tables.specs.declared.amounts.Amount.{Amount}

-- whether two spots are equal
abbrev pub are_equal : Spot → Spot → Bool
are_equal a b = (equality.eq-value).it a b

eqb-swap : (m n : ℕ) → (m == n) ≡ (n == m)
eqb-swap m n = elim (cases_Bool (m == n)) [
  | inl e ↦ e ∙ sym (eq-eqb n m (sym (eqb-true m n e)))
  | inr e ↦ e ∙ sym (false_from_ne_true (n == m) (λ f. both_ways (m == n) e (eq-eqb m n (sym (eqb-true n m f)))))
]

-- equal spots are one
are_equal-is : (a b : Spot) → are_equal a b ≡ is_spot a.place a.item a.month b
are_equal-is a b =
    ap₂ (λ x y. x && y) (eqb-swap a.place b.place) (ap₂ (λ x y. x && y) (eqb-swap a.item b.item) (eqb-swap a.month b.month))
    ∙ sym (and_assoc (b.place == a.place) (b.item == a.item) (b.month == a.month))

lookup-same : (test other : Spot → Bool) → ((spot : Spot) → test spot ≡ other spot) → (es : Entries) → lookup test es ≡ lookup other es
lookup-same test other same [] = refl
lookup-same test other same (e ∷ es) = ap₂ (λ b r. cond b (Some e.1) r) (same e.0) (lookup-same test other same es)

-- what a map finds at a spot
pub amount-found : (place item month : ℕ) (es : Entries) → lookup (are_equal (record { place = place; item = item; month = month })) es ≡ amount_at es place item month
amount-found place item month es =
    let spot : Spot = record { place = place; item = item; month = month } in
    lookup-same (are_equal spot) (is_spot place item month) (are_equal-is spot) es

-- a spot that is not there goes last
insert_last : (spot : Spot) (amount : Amount) (es : Entries) → is_some (lookup (are_equal spot) es) ≡ false → insert_entry are_equal es spot amount ≡ es ++ (spot, amount) ∷ []
insert_last spot amount [] absent = refl
insert_last spot amount (e ∷ es) absent = by (are_equal spot e.0) absent (insert_last spot amount es)
  where
    by : (here : Bool) → is_some (cond here (Some e.1) (lookup (are_equal spot) es)) ≡ false
        → (is_some (lookup (are_equal spot) es) ≡ false → insert_entry are_equal es spot amount ≡ es ++ (spot, amount) ∷ [])
        → cond here ((e.0, amount) ∷ es) (e ∷ insert_entry are_equal es spot amount) ≡ e ∷ (es ++ (spot, amount) ∷ [])
    by true absent more = cc
    by false absent more = ap (λ rest. e ∷ rest) (more absent)

pub with_new : (es : Entries) (spot : Spot) (amount : Amount) → is_some (lookup (are_equal spot) es) ≡ false → insert_entry are_equal es spot amount ≡ with_amount es spot amount
with_new es spot amount absent =
    let none : is_some (amount_at es spot.place spot.item spot.month) ≡ false = sym (ap is_some (amount-found spot.place spot.item spot.month es)) ∙ absent in
    insert_last spot amount es absent ∙ sym (cond-false (is_some (amount_at es spot.place spot.item spot.month)) es (es ++ (spot, amount) ∷ []) none)

pub with_known : (es : Entries) (spot : Spot) (amount : Amount) → is_some (lookup (are_equal spot) es) ≡ true → es ≡ with_amount es spot amount
with_known es spot amount there =
    let some : is_some (amount_at es spot.place spot.item spot.month) ≡ true = sym (ap is_some (amount-found spot.place spot.item spot.month es)) ∙ there in
    sym (cond-true (is_some (amount_at es spot.place spot.item spot.month)) es (es ++ (spot, amount) ∷ []) some)

-- what is found of one more entry
lookup-push : (test : Spot → Bool) (es : Entries) (spot : Spot) (amount : Amount) → lookup test (es ++ (spot, amount) ∷ []) ≡ option_or (lookup test es) (cond (test spot) (Some amount) None)
lookup-push test [] spot amount = refl
lookup-push test (e ∷ es) spot amount = by (test e.0) (lookup-push test es spot amount)
  where
    by : (b : Bool) → lookup test (es ++ (spot, amount) ∷ []) ≡ option_or (lookup test es) (cond (test spot) (Some amount) None)
        → cond b (Some e.1) (lookup test (es ++ (spot, amount) ∷ [])) ≡ option_or (cond b (Some e.1) (lookup test es)) (cond (test spot) (Some amount) None)
    by true more = refl
    by false more = more

-- an amount that is there stays, whatever else is not there
kept : (found : Option Amount) (other : Option Amount) → is_some found ≡ true → found ≡ option_or found other
kept None other some = cc
kept (Some x) other some = refl

-- a spot that passes the test of another is that one
spot_is : (place item month : ℕ) (spot : Spot) → is_spot place item month spot ≡ true → (es : Entries) → amount_at es place item month ≡ amount_at es spot.place spot.item spot.month
spot_is place item month spot is es =
    let first = and_parts ((spot.place == place) && (spot.item == item)) (spot.month == month) is in
    let second = and_parts (spot.place == place) (spot.item == item) first.0 in
    let places : spot.place ≡ place = eqb-true spot.place place second.0 in
    let items : spot.item ≡ item = eqb-true spot.item item second.1 in
    let months : spot.month ≡ month = eqb-true spot.month month first.1 in
    rw (places, items, months) refl

nothing_more : (found : Option Amount) → found ≡ option_or found None
nothing_more None = refl
nothing_more (Some x) = refl

-- what is found of one more amount, which counts where none of its spot is known
pub amount_at-with : (es : Entries) (spot : Spot) (amount : Amount) (place item month : ℕ)
    → amount_at (with_amount es spot amount) place item month ≡ option_or (amount_at es place item month) (cond (is_spot place item month spot) (Some amount) None)
amount_at-with es spot amount place item month = by (is_some (amount_at es spot.place spot.item spot.month)) refl (is_spot place item month spot) refl
  where
    by : (known : Bool) → is_some (amount_at es spot.place spot.item spot.month) ≡ known → (here : Bool) → is_spot place item month spot ≡ here
        → amount_at (cond known es (es ++ (spot, amount) ∷ [])) place item month ≡ option_or (amount_at es place item month) (cond (is_spot place item month spot) (Some amount) None)
    by false unknown here is = lookup-push (is_spot place item month) es spot amount
    by true some true is = kept (amount_at es place item month) (cond (is_spot place item month spot) (Some amount) None) (ap is_some (spot_is place item month spot is es) ∙ some)
    by true some false is = rw is (nothing_more (amount_at es place item month))

-- the amounts of records: those of the first record at each spot
module _ {R : Type 0} (test : ℕ → ℕ → ℕ → R → Bool) (value : R → Amount) where
  abbrev pub first_of : List R → ℕ → ℕ → ℕ → Option Amount
  first_of records place item month = option_map value (find (test place item month) records)

  find-one : (here : Bool) (r : R) → option_map value (cond here (Some r) None) ≡ cond here (Some (value r)) None
  find-one true r = refl
  find-one false r = refl

  map-or : (a b : Option R) → option_map value (option_or a b) ≡ option_or (option_map value a) (option_map value b)
  map-or None b = refl
  map-or (Some x) b = refl

  -- one more record
  pub amounts_more : (spot_of : R → Spot) → ((place item month : ℕ) (r : R) → is_spot place item month (spot_of r) ≡ test place item month r)
      → (es : Entries) (records : List R) (i : ℕ) (d : R) → i < length records → AreAmounts es (first_of (take i records))
      → AreAmounts (with_amount es (spot_of (get_or records i d)) (value (get_or records i d))) (first_of (take (i + 1) records))
  amounts_more spot_of same es records i d within so_far place item month =
      let r : R = get_or records i d in
      let split : take (i + 1) records ≡ take i records ++ r ∷ [] = ap (λ n. take n records) (add-one i) ∙ take-suc records i d within in
      amount_at-with es (spot_of r) (value r) place item month
      ∙ (ap (λ o. option_or o (cond (is_spot place item month (spot_of r)) (Some (value r)) None)) (so_far place item month)
      ∙ (ap (λ b. option_or (first_of (take i records) place item month) (cond b (Some (value r)) None)) (same place item month r)
      ∙ (ap (option_or (first_of (take i records) place item month)) (sym (find-one (test place item month r) r))
      ∙ (sym (map-or (find (test place item month) (take i records)) (find (test place item month) (r ∷ [])))
      ∙ (ap (option_map value) (sym (find-append (test place item month) (take i records) (r ∷ [])))
      ∙ ap (λ rs. first_of rs place item month) (sym split))))))
