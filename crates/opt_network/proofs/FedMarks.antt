-- The marks of places and months say where somebody is fed.
use Rattle.std.proofs.Common.{◌≡◌, ℕ, ◌+◌, ◌<◌, ◌≤◌, zero, suc, Bool, true, false, cond, inl, inr, List, [], ◌∷◌, length, take, get_or, set, replicate, count_by, Some, ℤ, pos, ◌+ℤ◌, ◌≤ℤ◌, refl, sym, ap, ap₂, subst, ◌∙◌, arith}
use Rattle.std.specs.Prelude.{◌&&◌, ◌||◌, ◌==◌, int_le, slice_get}
use Rattle.std.specs.List.{find, list_any}
use Rattle.std.specs.Option.{option_map_or}
use Rattle.std.proofs.lemmas.Int.{ints}
use Rattle.std.proofs.lemmas.Bool.{cases_lt, cases_eq, eqb-true, eq-eqb, true≢false}
use Rattle.std.proofs.lemmas.List.{get_or-set_same, get_or-set_other, get_or-replicate, get_or_past, length-replicate, length-set, take_all}
use Rattle.std.proofs.lemmas.Option.{slice_get_within}
use Rattle.std.proofs.lemmas.List.Folds.{find_at, list_any_more}
use Rattle.opt_model.specs.Tables.{Tables, heads_at}
use Rattle.opt_model.specs.Quantities.{over, sum_over, all_heads}
use Rattle.opt_model.specs.declared.limits.TheConstants.{MONTH_LIMIT}
use Rattle.opt_model.specs.declared.records.Basket.{Basket}
use Rattle.opt_model.specs.declared.records.Persons.{Persons}
use Rattle.opt_model.proofs.Feasibility.{le_from_test, test_from_le}
use Rattle.opt_tables.specs.Facts.{IsPersons, IsModel}
use Rattle.opt_network.specs.Fed.{mark_number, is_marked, marks_with}
use Rattle.opt_network.proofs.Heads.{heads_below, heads_more, heads_within}
use Rattle.opt_network.proofs.Lookups.{first_at}

-- a record names somebody of this place and month
abbrev pub names_some : ℕ → ℕ → Persons → Bool
names_some place month r = (r.place == place) && ((r.month == month) && int_le (pos 1) r.persons)

-- two marks are one where place and month are
same_mark : (p q m k : ℕ) → 1 ≤ m → m ≤ MONTH_LIMIT → 1 ≤ k → k ≤ MONTH_LIMIT → mark_number p m ≡ mark_number q k → (p ≡ q) × (m ≡ k)
same_mark p q m k m1 m2 k1 k2 e = (omega (arith, m1, m2, k1, k2, e), omega (arith, m1, m2, k1, k2, e))

module _ (marks : List Bool) (r : Persons) (place month : ℕ) where
  or_nothing : (a x y : Bool) → a ≡ (a || (x && (y && false)))
  or_nothing true x y = refl
  or_nothing false true true = refl
  or_nothing false true false = refl
  or_nothing false false y = refl

  or-true : (a : Bool) → true ≡ (a || true)
  or-true true = refl
  or-true false = refl

  or-false : (a : Bool) → a ≡ (a || false)
  or-false true = refl
  or-false false = refl

  apart : (x y : Bool) → (r.place == place) ≡ x → (r.month == month) ≡ y → (mark_number place month ≡ mark_number r.place r.month → ⊥) → (x && (y && true)) ≡ false
  apart true true at in_month differ = absurd (differ (sym (ap₂ mark_number (eqb-true r.place place at) (eqb-true r.month month in_month))))
  apart true false at in_month differ = refl
  apart false y at in_month differ = refl

  -- what one more record adds to a mark
  marked_next : 1 ≤ r.month → r.month ≤ MONTH_LIMIT → 1 ≤ month → month ≤ MONTH_LIMIT → mark_number r.place r.month < length marks
      → is_marked (marks_with marks r) place month ≡ (is_marked marks place month || names_some place month r)
  marked_next r1 r2 m1 m2 lt = by (int_le (pos 1) r.persons)
    where
      old : Bool
      old = is_marked marks place month

      by : (b : Bool) → get_or (cond b (set marks (mark_number r.place r.month) true) marks) (mark_number place month) false
          ≡ (old || ((r.place == place) && ((r.month == month) && b)))
      by false = or_nothing old (r.place == place) (r.month == month)
      by true = elim (cases_eq (mark_number place month) (mark_number r.place r.month)) [
        | inl same ↦
            let both = same_mark place r.place month r.month m1 m2 r1 r2 same in
            let here : ((r.place == place) && ((r.month == month) && true)) ≡ true =
            ap₂ (λ x y. x && (y && true)) (eq-eqb r.place place (sym both.0)) (eq-eqb r.month month (sym both.1)) in
            ap (λ k. get_or (set marks (mark_number r.place r.month) true) k false) same
            ∙ (get_or-set_same marks (mark_number r.place r.month) true false lt ∙ (or-true old ∙ ap (λ b. old || b) (sym here)))
        | inr differ ↦
            let none = apart (r.place == place) (r.month == month) refl refl differ in
            get_or-set_other marks (mark_number r.place r.month) (mark_number place month) true false differ ∙ (or-false old ∙ ap (λ b. old || b) (sym none))
      ]

-- the marks after one more record
pub marked_more : (marks : List Bool) (rs : List Persons) (i : ℕ) (r : Persons) (place month : ℕ) → i < length rs → r ≡ get_or rs i r
    → 1 ≤ r.month → r.month ≤ MONTH_LIMIT → 1 ≤ month → month ≤ MONTH_LIMIT → mark_number r.place r.month < length marks
    → is_marked marks place month ≡ list_any (names_some place month) (take i rs)
    → is_marked (marks_with marks r) place month ≡ list_any (names_some place month) (take (i + 1) rs)
marked_more marks rs i r place month inside read r1 r2 m1 m2 lt so_far =
    marked_next marks r place month r1 r2 m1 m2 lt
    ∙ (ap (λ b. b || names_some place month r) so_far
    ∙ (ap (λ x. list_any (names_some place month) (take i rs) || names_some place month x) read
    ∙ sym (list_any_more (names_some place month) rs i r inside)))

-- at first nothing is marked
pub not_marked : (n k : ℕ) → get_or (replicate n false) k false ≡ false
not_marked n k = elim (cases_lt k n) [
  | inl lt ↦ get_or-replicate n k false false lt
  | inr le ↦ get_or_past (replicate n false) k false (omega (arith, le, length-replicate n false))
]

-- as many marks as before
pub length-marks_with : (marks : List Bool) (r : Persons) → length (marks_with marks r) ≡ length marks
length-marks_with marks r = by (int_le (pos 1) r.persons)
  where
    by : (b : Bool) → length (cond b (set marks (mark_number r.place r.month) true) marks) ≡ length marks
    by true = length-set marks (mark_number r.place r.month) true
    by false = refl

-- an element that passes a test, where there is one
there_is : {X C : Type 0} (p : X → Bool) (xs : List X) → list_any p xs ≡ true → ((i : ℕ) (x : X) → slice_get xs i ≡ Some x → p x ≡ true → C) → C
there_is p [] e use_it = cc
there_is {X = X} {C = C} p (x ∷ xs) e use_it = by (p x) refl (λ rest. there_is p xs rest (λ i y at passes. use_it (suc i) y at passes))
  where
    by : (b : Bool) → p x ≡ b → (list_any p xs ≡ true → C) → C
    by true passes later = use_it 0 x refl passes
    by false fails later = later (sym (ap (λ b. b || list_any p xs) fails) ∙ e)

-- what is found passes the test, and where no element passes another one, it does not pass that
found_not : {X : Type 0} (p q : X → Bool) (f : X → ℤ) (xs : List X) → list_any q xs ≡ false → ((x : X) → p x ≡ true → q x ≡ false → f x ≤ℤ pos 0)
    → option_map_or f (find p xs) (pos 0) ≤ℤ pos 0
found_not p q f [] none low = omega (arith, ints)
found_not p q f (x ∷ xs) none low = by (p x) (q x) refl refl (λ rest. found_not p q f xs rest low)
  where
    by : (b c : Bool) → p x ≡ b → q x ≡ c → (list_any q xs ≡ false → option_map_or f (find p xs) (pos 0) ≤ℤ pos 0)
        → option_map_or f (cond (p x) (Some x) (find p xs)) (pos 0) ≤ℤ pos 0
    by b true passes names later = absurd (true≢false (sym (ap (λ c. c || list_any q xs) names) ∙ none))
    by true false passes names later = rw passes (low x passes names)
    by false false passes names later = rw passes (later (sym (ap (λ c. c || list_any q xs) names) ∙ none))

-- the one element that passes a test is found
found_once : {X : Type 0} (p : X → Bool) (xs : List X) (i : ℕ) (x : X) → slice_get xs i ≡ Some x → p x ≡ true → count_by p xs ≤ 1 → find p xs ≡ Some x
found_once p xs i x at passes few = find_at p xs ∙ (ap (slice_get xs) (first_at p xs i x at passes few) ∙ at)

module _ (t : Tables) (model : IsModel t) (place month : ℕ) where
  abbrev heads : ℕ → ℤ
  heads b = heads_at t place b month

  abbrev below : ℕ → ℤ
  below i = heads_below t place month i

  below-more : (i : ℕ) → i < length t.baskets → below (suc i) ≡ below i +ℤ heads i
  below-more i lt =
      let next : suc i ≡ i + 1 = omega arith in
      ap below next ∙ heads_more t place month i lt

  below-from_zero : (i : ℕ) → i ≤ length t.baskets → pos 0 ≤ℤ below i
  below-from_zero zero le = omega (arith, ints)
  below-from_zero (suc i) le =
      let more = below-more i (omega arith) in
      omega (arith, ints, more, (heads_within t model place i month).above, below-from_zero i (omega arith))

  -- together they are at least those of each basket
  below-reaches : (b i : ℕ) → b < i → i ≤ length t.baskets → heads b ≤ℤ below i
  below-reaches b zero lt le = absurd (omega arith)
  below-reaches b (suc i) lt le =
      let more = below-more i (omega arith) in
      elim (cases_lt b i) [
        | inl before ↦ omega (arith, ints, more, (heads_within t model place i month).above, below-reaches b i before (omega arith))
        | inr after ↦
            let equal : b ≡ i = omega (arith, lt, after) in
            let same : heads b ≡ heads i = ap heads equal in
            omega (arith, ints, more, same, below-from_zero i (omega arith))
      ]

  below-none : ((b : ℕ) → heads b ≤ℤ pos 0) → (i : ℕ) → i ≤ length t.baskets → below i ≤ℤ pos 0
  below-none none zero le = omega (arith, ints)
  below-none none (suc i) le = omega (arith, ints, below-more i (omega arith), none i, below-none none i (omega arith))

  all-below : all_heads t place month ≡ below (length t.baskets)
  all-below = ap (λ (bs : List Basket). sum_over (over bs λ b _. b ∷ []) heads) (sym (take_all (length t.baskets) t.baskets (omega arith)))

  -- a record that names somebody of this place and month
  of_place : (r : Persons) → names_some place month r ≡ true → ((r.place == place) ≡ true) × (((r.month == month) ≡ true) × (int_le (pos 1) r.persons ≡ true))
  of_place r = both (r.place == place) (r.month == month) (int_le (pos 1) r.persons)
    where
      both : (x y z : Bool) → (x && (y && z)) ≡ true → (x ≡ true) × ((y ≡ true) × (z ≡ true))
      both true true z e = (refl, (refl, e))
      both true false z e = absurd (true≢false (sym e))
      both false y z e = absurd (true≢false (sym e))

  -- a record that names its place, basket and month, and nobody
  nobody : (b : ℕ) (r : Persons) → ((r.place == place) && (r.basket == b) && (r.month == month)) ≡ true → names_some place month r ≡ false → r.persons ≤ℤ pos 0
  nobody b r key none = by (r.place == place) (r.basket == b) (r.month == month) (int_le (pos 1) r.persons) refl key none
    where
      by : (x y z w : Bool) → int_le (pos 1) r.persons ≡ w → (x && y && z) ≡ true → (x && (z && w)) ≡ false → r.persons ≤ℤ pos 0
      by true true true true is key none = absurd (true≢false none)
      by true true true false is key none = omega (arith, ints, is)
      by true true false w is key none = absurd (true≢false (sym key))
      by true false z w is key none = absurd (true≢false (sym key))
      by false y z w is key none = absurd (true≢false (sym key))

  there_at : {X : Type 0} (xs : List X) (i : ℕ) (x : X) → slice_get xs i ≡ Some x → get_or xs i x ≡ x
  there_at [] i x at = cc
  there_at (y ∷ ys) zero x at = cc
  there_at (y ∷ ys) (suc i) x at = there_at ys i x at

  -- whether a record names somebody of this place and month is whether somebody is fed there
  pub fed-any : list_any (names_some place month) t.persons ≡ int_le (pos 1) (all_heads t place month)
  fed-any = by (list_any (names_some place month) t.persons) refl
    where
      some : list_any (names_some place month) t.persons ≡ true → pos 1 ≤ℤ all_heads t place month
      some e = there_is (names_some place month) t.persons e (λ i r at passes.
          let is = of_place r passes in
          let key : ((r.place == place) && (r.basket == r.basket) && (r.month == month)) ≡ true =
          ap₂ (λ x y. x && y && (r.month == month)) is.0 (eq-eqb r.basket r.basket refl) ∙ is.1.0 in
          let found = found_once (λ (x : Persons). (x.place == place) && (x.basket == r.basket) && (x.month == month)) t.persons i r at key (model.keys.persons place r.basket month) in
          let named : heads r.basket ≡ r.persons = ap (λ o. option_map_or (λ (x : Persons). x.persons) o (pos 0)) found in
          let has = subst (IsPersons t) (there_at t.persons i r at) (model.persons i r (slice_get_within t.persons i r at)) in
          omega (arith, ints, named, le_from_test (pos 1) r.persons is.1.1, below-reaches r.basket (length t.baskets) has.basket (omega arith), all-below))

      none : list_any (names_some place month) t.persons ≡ false → all_heads t place month ≤ℤ pos 0
      none e =
          let nobody_at : (b : ℕ) → heads b ≤ℤ pos 0 =
          λ b. found_not (λ (x : Persons). (x.place == place) && (x.basket == b) && (x.month == month)) (names_some place month) (λ x. x.persons) t.persons e (nobody b) in
          omega (arith, ints, below-none nobody_at (length t.baskets) (omega arith), all-below)

      by : (b : Bool) → list_any (names_some place month) t.persons ≡ b → list_any (names_some place month) t.persons ≡ int_le (pos 1) (all_heads t place month)
      by true e = e ∙ sym (test_from_le (pos 1) (all_heads t place month) (some e))
      by false e = e ∙ sym (fails (int_le (pos 1) (all_heads t place month)) refl)
        where
          fails : (b : Bool) → int_le (pos 1) (all_heads t place month) ≡ b → b ≡ false
          fails true is = absurd (omega (arith, ints, le_from_test (pos 1) (all_heads t place month) is, none e))
          fails false is = refl
