-- What is written of a plan within the ranges is read as its values.
use Rattle.std.proofs.Common.{◌≡◌, ◌≢◌, ◌⊎◌, inl, inr, ◌<◌, ◌≤◌, ◌-◌, ◌+◌, ◌*◌, ◌^◌, ℕ, zero, suc, Bool, true, false, cond, not, List, [], ◌∷◌, ◌++◌, map, take, drop, length, get_or, position, All, IsUtf8, Option, Some, None, Ok, Err, ℤ, pos, ◌*ℤ◌, refl, ap, sym, subst, ◌∙◌, arith, take_all, drop-cons}
use Rattle.std.specs.Prelude.{slice_index_or, slice_set, is_some, nat_lt, int_lt, if◌then◌else◌}
use Rattle.std.specs.Cmp.{signed_Decides}
use Rattle.std.specs.Fmt.{decimal, signed_decimal}
use Rattle.std.specs.List.{range_with_len}
use Rattle.std.specs.Option.{ok_or}
use Rattle.std.specs.Ordering.{int_eq}
use Rattle.std.proofs.Math.ListN.{drop_of_length-le}
use Rattle.std.proofs.Math.Nat.{mul-le-mul}
use Rattle.std.proofs.lemmas.Bool.{lt-ltb, le-ltb}
use Rattle.std.proofs.lemmas.Int.{ints}
use Rattle.std.proofs.lemmas.List.{ext_get_or, get_or-map, length-map, length-set, get_or-set_same, get_or-set_other, length-replicate, get_or-replicate, take_more}
use Rattle.std.proofs.lemmas.List.Elements.{All-cons}
use Rattle.std.proofs.lemmas.List.FromFn.{length-range_with_len, get_or-range_with_len}
use Rattle.std.proofs.lemmas.Option.{slice_get-get_or}
use Rattle.std.proofs.lemmas.Str.{IsUtf8-append, IsUtf8-nil}
use Rattle.csv.specs.Writing.{row_text, default_writer}
use Rattle.csv.proofs.RoundTrip.{rows_text}
use Rattle.opt_base.specs.Answers.{◌>>=◌, each}
use Rattle.opt_base.specs.declared.refusal.Kind.TheVariants.{Duplicate, UnknownName}
use Rattle.opt_model.specs.Plans.{Plan, plan_of}
use Rattle.opt_model.specs.Quantities.{quantities, low, high, list_if, same_quantity}
use Rattle.opt_model.specs.Tables.{Tables}
use Rattle.opt_model.specs.Texts.{words_of, month_of, plan_amount, plan_fields, plan_records, plan_text}
use Rattle.opt_model.specs.declared.quantity.Quantity.{Quantity}
use Rattle.opt_model.specs.declared.quantity.Quantity.TheVariants as quantity
use Rattle.opt_model.proofs.Quantities.{same_quantity-self}
use Rattle.opt_network.specs.Numbering.{has_quantity, IsSpan}
use Rattle.opt_network.proofs.Lookups.{position-once}
use Rattle.opt_network.proofs.Ranges.{all_exist, commodity_there, once, span_within}
use Rattle.opt_read.specs.Grid.{without_blanks}
use Rattle.opt_rows.specs.Systems.{root_of}
use Rattle.opt_sums.specs.Sums.{at}
use Rattle.opt_system.specs.Ranges.{IsWithin}
use Rattle.opt_tables.specs.Facts.{IsModel, IsFrom}
use Rattle.opt_tables.specs.Records.{Record, text_in, number_in, refused_at}
use Rattle.opt_report.specs.PlanFiles.{Listed, value_in, with_value, with_quantity, with_record, none_listed, listed_in, value_or_none, with_next, values_of, plan_values}
use Rattle.opt_report.specs.Subjects.{quantity_of}
use Rattle.opt_report.specs.Units.{unit_of}
use Rattle.opt_report.proofs.Listing.{at_number}
use Rattle.opt_report.proofs.PlanTexts.{amount_is, value_is}
use Rattle.opt_report.proofs.ReadSubjects.{plan_row, subject_of, subject_is, quantity_back}
use Rattle.opt_report.proofs.ReadValues.{listed_value, from_zero, product, not_less, all_at, value_back, month_back, five_text, header_text}
use Rattle.opt_report.proofs.WrittenGrid.{IsPlain, header, grid_is}
use Rattle.opt_report.proofs.WrittenNumbers.{IsWritten, number_written}
use Rattle.opt_report.proofs.WrittenText.{row_is_text}
use Rattle.opt_report.proofs.WrittenWords.{AreWords, words_are, month_is}

module _ (t : Tables) (model : IsModel t) (x : List ℤ) (within : IsWithin (root_of t) x) where
  abbrev qs : List Quantity
  qs = quantities t

  abbrev plan : Plan
  plan = plan_of qs x

  long : length x ≡ length qs
  long = within.same_length ∙ length-map qs (low t)

  no_quantity : Quantity
  no_quantity = quantity.Short 0 0

  -- the quantity of a number
  abbrev nth : ℕ → Quantity
  nth i = get_or qs i no_quantity

  found : (i : ℕ) → i < length qs → position (same_quantity (nth i)) qs ≡ Some i
  found i h = position-once (same_quantity (nth i)) qs i (nth i) (slice_get-get_or qs i no_quantity h) (same_quantity-self (nth i)) (once t (nth i))

  there_is : (i : ℕ) → i < length qs → has_quantity t (nth i) ≡ true
  there_is i h = all_exist t i no_quantity h

  value : (i : ℕ) → i < length qs → plan (nth i) ≡ at x i
  value i h = value_is qs x (nth i) i (found i h)

  in_range : (i : ℕ) → i < length qs → IsFrom (low t (nth i)) (high t (nth i)) (at x i)
  in_range i h =
      let low_is : at (root_of t).low i ≡ low t (nth i) = at_number t (nth i) i (found i h) (low t) in
      let high_is : at (root_of t).high i ≡ high t (nth i) = at_number t (nth i) i (found i h) (high t) in
      record {
        above = omega (arith, ints, within.above i (omega (arith, long, h)), low_is);
        below = omega (arith, ints, within.below i (omega (arith, long, h)), high_is);
      }

  -- ---- what is listed once the records of so many first quantities are read
  abbrev slot : ℕ → ℕ → Option ℤ
  slot i j = cond (nat_lt j i) (listed_value (at x j)) None

  abbrev so_far : ℕ → Listed
  so_far i = map (slot i) (range_with_len 0 (length qs))

  long_so_far : (i : ℕ) → length (so_far i) ≡ length qs
  long_so_far i = length-map (range_with_len 0 (length qs)) (slot i) ∙ length-range_with_len 0 (length qs)

  slot_at : (i j : ℕ) → j < length qs → get_or (so_far i) j None ≡ slot i j
  slot_at i j h =
      let size : length (range_with_len 0 (length qs)) ≡ length qs = length-range_with_len 0 (length qs) in
      let number : get_or (range_with_len 0 (length qs)) j 0 ≡ j = omega (arith, get_or-range_with_len 0 (length qs) j 0 h) in
      get_or-map (slot i) (range_with_len 0 (length qs)) j 0 None (omega (arith, size, h)) ∙ ap (slot i) number

  before : (i j : ℕ) → j < i → slot i j ≡ listed_value (at x j)
  before i j h = ap (λ b. cond b (listed_value (at x j)) None) (lt-ltb j i h)

  behind : (i j : ℕ) → i ≤ j → slot i j ≡ None
  behind i j h = ap (λ b. cond b (listed_value (at x j)) None) (le-ltb j i h)

  other_slot : (i j : ℕ) → j ≢ i → slot (i + 1) j ≡ slot i j
  other_slot i j apart = by (below_or_not j i)
    where
      below_or_not : (m n : ℕ) → (m < n) ⊎ (n ≤ m)
      below_or_not m n = grind arith

      by : (j < i) ⊎ (i ≤ j) → slot (i + 1) j ≡ slot i j
      by (inl h) = before (i + 1) j (omega arith) ∙ sym (before i j h)
      by (inr h) = behind (i + 1) j (omega arith) ∙ sym (behind i j h)

  same_or_not : (m n : ℕ) → (m ≡ n) ⊎ (m ≢ n)
  same_or_not m n = grind arith

  -- one more value
  one_more : (i : ℕ) → i < length qs → listed_value (at x i) ≡ Some (at x i) → slice_set (so_far i) i (Some (at x i)) ≡ so_far (i + 1)
  one_more i h some =
      ext_get_or None (slice_set (so_far i) i (Some (at x i))) (so_far (i + 1))
      (length-set (so_far i) i (Some (at x i)) ∙ (long_so_far i ∙ sym (long_so_far (i + 1))))
      (λ j k. by j (omega (arith, k, length-set (so_far i) i (Some (at x i)), long_so_far i)) (same_or_not j i))
    where
      by : (j : ℕ) → j < length qs → (j ≡ i) ⊎ (j ≢ i) → get_or (slice_set (so_far i) i (Some (at x i))) j None ≡ get_or (so_far (i + 1)) j None
      by j k (inl same) =
          rw same
          (get_or-set_same (so_far i) i (Some (at x i)) None (omega (arith, h, long_so_far i))
          ∙ sym (slot_at (i + 1) i h ∙ (before (i + 1) i (omega arith) ∙ some)))
      by j k (inr apart) =
          get_or-set_other (so_far i) i j (Some (at x i)) None apart ∙ (slot_at i j k ∙ (sym (other_slot i j apart) ∙ sym (slot_at (i + 1) j k)))

  -- one more quantity whose value is 0
  one_none : (i : ℕ) → i < length qs → listed_value (at x i) ≡ None → so_far i ≡ so_far (i + 1)
  one_none i h none =
      ext_get_or None (so_far i) (so_far (i + 1)) (long_so_far i ∙ sym (long_so_far (i + 1)))
      (λ j k. by j (omega (arith, k, long_so_far i)) (same_or_not j i))
    where
      by : (j : ℕ) → j < length qs → (j ≡ i) ⊎ (j ≢ i) → get_or (so_far i) j None ≡ get_or (so_far (i + 1)) j None
      by j k (inl same) = rw same (slot_at i i h ∙ (behind i i (omega arith) ∙ sym (slot_at (i + 1) i h ∙ (before (i + 1) i (omega arith) ∙ none))))
      by j k (inr apart) = slot_at i j k ∙ (sym (other_slot i j apart) ∙ sym (slot_at (i + 1) j k))

  none_yet : none_listed t ≡ so_far 0
  none_yet =
      let no : Option ℤ = None in
      ext_get_or no (none_listed t) (so_far 0) (length-replicate (length qs) no ∙ sym (long_so_far 0))
      (λ j k. let h : j < length qs = omega (arith, k, length-replicate (length qs) no) in
      get_or-replicate (length qs) j no no h ∙ sym (slot_at 0 j h ∙ behind 0 j (omega arith)))

  -- ---- one record
  abbrev fields : ℕ → List (List ℕ)
  fields i = plan_fields t plan (nth i)

  unit_from : (q : Quantity) → has_quantity t q ≡ true → IsFrom (pos 1) (pos 2000) (unit_of t q)
  unit_from (quantity.Ration b c m) e =
      all_at (IsFrom (pos 1) (pos 2000)) (λ r. r.step_g) t.commodities c (pos 0) (commodity_there t _ _ c e) (λ k d h. (model.commodities k d h).step_g)
  unit_from (quantity.Short d m) e = record { above = omega (arith, ints); below = omega (arith, ints) }
  unit_from (quantity.Buy o m) e = record { above = omega (arith, ints); below = omega (arith, ints) }
  unit_from (quantity.Ship a c m) e = record { above = omega (arith, ints); below = omega (arith, ints) }
  unit_from (quantity.Keep p c m) e = record { above = omega (arith, ints); below = omega (arith, ints) }
  unit_from (quantity.Feed p c m) e = record { above = omega (arith, ints); below = omega (arith, ints) }
  unit_from (quantity.Order o m) e = record { above = omega (arith, ints); below = omega (arith, ints) }

  -- the value of a quantity as a count of units
  record IsCounted (i : ℕ) : Type 0 where
    unit : ℕ
    count : ℕ
    unit_is : unit_of t (nth i) ≡ pos unit
    some : 1 ≤ unit
    count_is : at x i ≡ pos count
    small : unit * count < 2 ^ 64

  counted : (i : ℕ) → i < length qs → IsCounted i
  counted i h =
      let span : IsSpan (low t (nth i)) (high t (nth i)) = span_within t model (nth i) in
      let from : IsFrom (pos 1) (pos 2000) (unit_of t (nth i)) = unit_from (nth i) (there_is i h) in
      let is : IsFrom (low t (nth i)) (high t (nth i)) (at x i) = in_range i h in
      let unit = from_zero (unit_of t (nth i)) (omega (arith, ints, from.above)) in
      let count = from_zero (at x i) (omega (arith, ints, span.from_zero, is.above)) in
      let unit_small : unit.0 ≤ 2000 = omega (arith, ints, from.below, unit.1) in
      let count_small : count.0 ≤ 2 ^ 40 = omega (arith, ints, is.below, span.small, count.1) in
      record {
        unit = unit.0;
        count = count.0;
        unit_is = unit.1;
        some = omega (arith, ints, from.above, unit.1);
        count_is = count.1;
        small = omega (arith, mul-le-mul unit_small count_small);
      }

  amount_text : (i : ℕ) → i < length qs → (n : IsCounted i) → signed_decimal (plan_amount t plan (nth i)) ≡ decimal (n.unit * n.count)
  amount_text i h n =
      ap signed_decimal (sym (amount_is t plan (nth i)) ∙ (ap (λ z. unit_of t (nth i) *ℤ z) (value i h ∙ n.count_is) ∙ (ap (λ z. z *ℤ pos n.count) n.unit_is ∙ product n.unit n.count)))

  -- what stands in the fourth and the fifth column
  fourth : (i number : ℕ) → i < length qs → text_in (plan_row number (fields i)) 4 ≡ decimal (month_of (nth i))
  fourth i number h =
      ap (λ words. text_in (plan_row number (words ++ decimal (month_of (nth i)) ∷ signed_decimal (plan_amount t plan (nth i)) ∷ [])) 4) (words_are t model (nth i) (there_is i h)).are

  fifth : (i number : ℕ) → i < length qs → text_in (plan_row number (fields i)) 5 ≡ signed_decimal (plan_amount t plan (nth i))
  fifth i number h =
      ap (λ words. text_in (plan_row number (words ++ decimal (month_of (nth i)) ∷ signed_decimal (plan_amount t plan (nth i)) ∷ [])) 5) (words_are t model (nth i) (there_is i h)).are

  -- the record of a value other than 0 is read as the value
  record_back : (i number : ℕ) → i < length qs → listed_value (at x i) ≡ Some (at x i) → with_record t number (fields i) (so_far i) ≡ Ok (so_far (i + 1))
  record_back i number h some =
      let q : Quantity = nth i in
      let row : Record = plan_row number (fields i) in
      let n : IsCounted i = counted i h in
      let is : IsFrom (low t q) (high t q) (at x i) = in_range i h in
      let month = month_is t model q (there_is i h) in
      let read_month : number_in row 4 1 t.settings.months ≡ Ok (month_of q) = month_back row (month_of q) t.settings.months (fourth i number h) month.0 month.1 model.settings.months.1 in
      let read_value : value_in row (unit_of t q) (low t q) (high t q) ≡ Ok (at x i) =
      ap (λ u. value_in row u (low t q) (high t q)) n.unit_is
      ∙ (value_back row n.unit n.count (low t q) (high t q) (fifth i number h ∙ amount_text i h n) n.some n.small (omega (arith, ints, is.above, n.count_is)) (omega (arith, ints, is.below, n.count_is)) ∙ ap Ok (sym n.count_is))
      in
      ap (λ r. r >>= λ subject. number_in row 4 1 t.settings.months >>= λ m. with_quantity t row (so_far i) (quantity_of t subject m))
      (subject_is t model q number (decimal (month_of q) ∷ signed_decimal (plan_amount t plan q) ∷ []) (there_is i h))
      ∙ (ap (λ r. r >>= λ m. with_quantity t row (so_far i) (quantity_of t (subject_of t model q) m)) read_month
      ∙ (ap (with_quantity t row (so_far i)) (quantity_back t model q (there_is i h))
      ∙ (ap (λ o. ok_or o (refused_at row 0 UnknownName) >>= with_value t row q (so_far i)) (found i h)
      ∙ (ap (λ o. if is_some o then Err (refused_at row 0 Duplicate) else (value_in row (unit_of t q) (low t q) (high t q) >>= λ v. Ok (slice_set (so_far i) i (Some v)))) (slot_at i i h ∙ behind i i (omega arith))
      ∙ (ap (λ r. r >>= λ v. Ok (slice_set (so_far i) i (Some v))) read_value ∙ ap Ok (one_more i h some))))))

  -- ---- all records
  abbrev rows_of : List Quantity → List (List (List ℕ))
  rows_of [] = []
  rows_of (q ∷ rest) = list_if (not (int_eq (plan q) (pos 0))) (plan_fields t plan q ∷ []) ++ rows_of rest

  rows_are : (rest : List Quantity) → plan_records t plan rest ≡ rows_text (rows_of rest)
  unfolding rows_text
  rows_are [] = refl
  rows_are (q ∷ rest) = by (rows_are rest) (int_eq (plan q) (pos 0))
    where
      by : plan_records t plan rest ≡ rows_text (rows_of rest) → (none : Bool)
          → list_if (not none) (row_text default_writer (plan_fields t plan q)) ++ plan_records t plan rest ≡ rows_text (list_if (not none) (plan_fields t plan q ∷ []) ++ rows_of rest)
      by more true = more
      by more false = ap (λ text. row_text default_writer (plan_fields t plan q) ++ text) more

  listed_from : (k i number : ℕ) → i + k ≡ length qs → each (with_record t) number (so_far i) (rows_of (drop i qs)) ≡ Ok (so_far (length qs))
  listed_from zero i number e =
      let all : i ≡ length qs = omega (arith, e) in
      ap (λ rest. each (with_record t) number (so_far i) (rows_of rest)) (drop_of_length-le qs (omega (arith, e))) ∙ ap (λ n. Ok (so_far n)) all
  listed_from (suc k) i number e =
      let h : i < length qs = omega (arith, e) in
      let next : suc i ≡ i + 1 = omega arith in
      ap (λ rest. each (with_record t) number (so_far i) (rows_of rest)) (drop-cons qs i no_quantity h ∙ ap (λ n. nth i ∷ drop n qs) next)
      ∙ by (λ n. listed_from k (i + 1) n (omega (arith, e))) h (int_eq (at x i) (pos 0)) refl
    where
      by : ((n : ℕ) → each (with_record t) n (so_far (i + 1)) (rows_of (drop (i + 1) qs)) ≡ Ok (so_far (length qs))) → i < length qs → (none : Bool) → int_eq (at x i) (pos 0) ≡ none
          → each (with_record t) number (so_far i) (rows_of (nth i ∷ drop (i + 1) qs)) ≡ Ok (so_far (length qs))
      by more h true f =
          let here : int_eq (plan (nth i)) (pos 0) ≡ true = ap (λ z. int_eq z (pos 0)) (value i h) ∙ f in
          let none : listed_value (at x i) ≡ None = ap (λ b. cond b None (Some (at x i))) f in
          rw here (ap (λ made. each (with_record t) number made (rows_of (drop (i + 1) qs))) (one_none i h none) ∙ more number)
      by more h false f =
          let here : int_eq (plan (nth i)) (pos 0) ≡ false = ap (λ z. int_eq z (pos 0)) (value i h) ∙ f in
          let some : listed_value (at x i) ≡ Some (at x i) = ap (λ b. cond b None (Some (at x i))) f in
          rw here (ap (λ r. r >>= λ made. each (with_record t) (number + 1) made (rows_of (drop (i + 1) qs))) (record_back i number h some) ∙ more (number + 1))

  -- the value of each quantity is the one that is listed, or 0
  value_again : (i : ℕ) → i < length qs → value_or_none (low t (nth i)) (listed_value (at x i)) ≡ Ok (at x i)
  value_again i h = by (int_eq (at x i) (pos 0)) refl
    where
      by : (none : Bool) → int_eq (at x i) (pos 0) ≡ none → value_or_none (low t (nth i)) (cond none None (Some (at x i))) ≡ Ok (at x i)
      by true f =
          let zero_is : at x i ≡ pos 0 = (signed_Decides (at x i) (pos 0)).0 f in
          let not_above : int_lt (pos 0) (low t (nth i)) ≡ false = not_less (pos 0) (low t (nth i)) (omega (arith, ints, (in_range i h).above, zero_is)) in
          rw not_above (ap Ok (sym zero_is))
      by false f = refl

  values_from : (k i : ℕ) → i + k ≡ length qs → each (with_next t (so_far (length qs))) (i + 1) (take i x) (drop i qs) ≡ Ok x
  values_from zero i e =
      ap (each (with_next t (so_far (length qs))) (i + 1) (take i x)) (drop_of_length-le qs (omega (arith, e))) ∙ ap Ok (take_all i x (omega (arith, e, long)))
  values_from (suc k) i e =
      let h : i < length qs = omega (arith, e) in
      let all : Listed = so_far (length qs) in
      let next : suc i ≡ i + 1 = omega arith in
      let place : i + 1 - 1 ≡ i = omega arith in
      let read : value_or_none (low t (nth i)) (slice_index_or all (i + 1 - 1) None) ≡ Ok (at x i) =
      ap (λ n. value_or_none (low t (nth i)) (slice_index_or all n None)) place
      ∙ (ap (value_or_none (low t (nth i))) (slot_at (length qs) i h ∙ before (length qs) i h) ∙ value_again i h)
      in
      ap (each (with_next t all) (i + 1) (take i x)) (drop-cons qs i no_quantity h ∙ ap (λ n. nth i ∷ drop n qs) next)
      ∙ (ap (λ r. (r >>= λ v. Ok (take i x ++ v ∷ [])) >>= λ made. each (with_next t all) (i + 1 + 1) made (drop (i + 1) qs)) read
      ∙ (ap (λ made. each (with_next t all) (i + 1 + 1) made (drop (i + 1) qs)) (sym (take_more x i (pos 0) (omega (arith, h, long))))
      ∙ values_from k (i + 1) (omega (arith, e))))

  -- ---- the whole file
  plain : (i : ℕ) → i < length qs → IsPlain (fields i)
  plain i h =
      let q : Quantity = nth i in
      let w : AreWords (words_of t q) = words_are t model q (there_is i h) in
      let n : IsCounted i = counted i h in
      let month = month_is t model q (there_is i h) in
      let m : IsWritten (month_of q) = number_written (month_of q) (omega (arith, month.1, model.settings.months.1)) in
      let a : IsWritten (n.unit * n.count) = number_written (n.unit * n.count) n.small in
      let is : fields i ≡ w.kind ∷ w.name ∷ w.item ∷ decimal (month_of q) ∷ decimal (n.unit * n.count) ∷ [] =
      ap (λ words. words ++ decimal (month_of q) ∷ signed_decimal (plan_amount t plan q) ∷ []) w.are
      ∙ ap (λ text. w.kind ∷ w.name ∷ w.item ∷ decimal (month_of q) ∷ text ∷ []) (amount_text i h n)
      in
      record {
        five = ap length is;
        stays = ap (map without_blanks) is ∙ (rw (w.kind_is.stripped, w.name_is.stripped, w.item_is.stripped, m.stripped, a.stripped) refl ∙ sym is);
      }

  text_row : (i : ℕ) → i < length qs → IsUtf8 (row_text default_writer (fields i))
  text_row i h =
      let q : Quantity = nth i in
      let w : AreWords (words_of t q) = words_are t model q (there_is i h) in
      let n : IsCounted i = counted i h in
      let month = month_is t model q (there_is i h) in
      let m : IsWritten (month_of q) = number_written (month_of q) (omega (arith, month.1, model.settings.months.1)) in
      let a : IsWritten (n.unit * n.count) = number_written (n.unit * n.count) n.small in
      let is : fields i ≡ w.kind ∷ w.name ∷ w.item ∷ decimal (month_of q) ∷ decimal (n.unit * n.count) ∷ [] =
      ap (λ words. words ++ decimal (month_of q) ∷ signed_decimal (plan_amount t plan q) ∷ []) w.are
      ∙ ap (λ text. w.kind ∷ w.name ∷ w.item ∷ decimal (month_of q) ∷ text ∷ []) (amount_text i h n)
      in
      subst (λ (row : List (List ℕ)). IsUtf8 (row_text default_writer row)) (sym is)
      (row_is_text w.kind w.name (w.item ∷ decimal (month_of q) ∷ decimal (n.unit * n.count) ∷ []) (five_text w.kind w.name w.item (decimal (month_of q)) (decimal (n.unit * n.count)) w.kind_is.text w.name_is.text w.item_is.text m.text a.text))

  rows_plain : (k i : ℕ) → i + k ≡ length qs → All IsPlain (rows_of (drop i qs))
  rows_plain zero i e = subst (λ (rest : List Quantity). All IsPlain (rows_of rest)) (sym (drop_of_length-le qs (omega (arith, e)))) (λ j d h. absurd (omega arith))
  rows_plain (suc k) i e =
      let h : i < length qs = omega (arith, e) in
      let next : suc i ≡ i + 1 = omega arith in
      subst (λ (rest : List Quantity). All IsPlain (rows_of rest)) (sym (drop-cons qs i no_quantity h ∙ ap (λ n. nth i ∷ drop n qs) next)) (by (rows_plain k (i + 1) (omega (arith, e))) (int_eq (plan (nth i)) (pos 0)) h)
    where
      by : All IsPlain (rows_of (drop (i + 1) qs)) → (none : Bool) → i < length qs → All IsPlain (list_if (not none) (fields i ∷ []) ++ rows_of (drop (i + 1) qs))
      by more true h = more
      by more false h = All-cons IsPlain (fields i) (rows_of (drop (i + 1) qs)) (plain i h) more

  rows_text_is : (k i : ℕ) → i + k ≡ length qs → IsUtf8 (rows_text (rows_of (drop i qs)))
  unfolding rows_text
  rows_text_is zero i e = subst (λ (rest : List Quantity). IsUtf8 (rows_text (rows_of rest))) (sym (drop_of_length-le qs (omega (arith, e)))) IsUtf8-nil
  rows_text_is (suc k) i e =
      let h : i < length qs = omega (arith, e) in
      let next : suc i ≡ i + 1 = omega arith in
      subst (λ (rest : List Quantity). IsUtf8 (rows_text (rows_of rest))) (sym (drop-cons qs i no_quantity h ∙ ap (λ n. nth i ∷ drop n qs) next)) (by (rows_text_is k (i + 1) (omega (arith, e))) (int_eq (plan (nth i)) (pos 0)) h)
    where
      by : IsUtf8 (rows_text (rows_of (drop (i + 1) qs))) → (none : Bool) → i < length qs → IsUtf8 (rows_text (list_if (not none) (fields i ∷ []) ++ rows_of (drop (i + 1) qs)))
      by more true h = more
      by more false h = IsUtf8-append (row_text default_writer (fields i)) (rows_text (rows_of (drop (i + 1) qs))) (text_row i h) more

  -- a plan within the ranges is read from the text that is written of it
  pub back : plan_values t (plan_text t plan) ≡ Ok x
  unfolding plan_values
  back =
      let rows : List (List (List ℕ)) = rows_of (drop 0 qs) in
      let text : plan_text t plan ≡ row_text default_writer header ++ rows_text rows = ap (λ more. row_text default_writer header ++ more) (rows_are qs) in
      let utf8 : IsUtf8 (plan_text t plan) =
      subst IsUtf8 (sym text) (IsUtf8-append (row_text default_writer header) (rows_text rows) header_text (rows_text_is (length qs) 0 (omega arith)))
      in
      ap (λ r. r >>= λ rs. listed_in t rs >>= values_of t) (grid_is t.settings.format rows (plan_text t plan) text utf8 (rows_plain (length qs) 0 (omega arith)))
      ∙ (ap (λ made. each (with_record t) 1 made rows >>= values_of t) none_yet
      ∙ (ap (λ r. r >>= values_of t) (listed_from (length qs) 0 1 (omega arith)) ∙ values_from (length qs) 0 (omega arith)))
