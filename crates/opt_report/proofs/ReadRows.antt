-- The records of a plan file and then the values of all quantities, one by one.
use Rattle.std.proofs.Common.{◌≡◌, ◌⊎◌, inl, inr, ℕ, ◌+◌, ◌-◌, ◌^◌, ◌<◌, Bool, true, false, cond, List, [], ◌∷◌, ◌++◌, length, get_or, drop, Option, Some, None, Result, Ok, Err, ℤ, pos, ◌≤ℤ◌, refl, sym, ap, subst, ◌∙◌, arith}
use Rattle.std.specs.Prelude.{IfSome, IsErrAnd, nat_lt, int_lt, slice_index_or, if◌then◌else◌}
use Rattle.std.proofs.lemmas.Bool.{lt-ltb}
use Rattle.std.proofs.lemmas.Int.{ints}
use Rattle.std.proofs.lemmas.List.{get_or-map, get_or_append_left, get_or_push}
use Rattle.opt_base.specs.Answers.{◌>>=◌, Gives, each}
use Rattle.opt_base.specs.Refusals.{refusal_at}
use Rattle.opt_base.specs.declared.refusal.File.TheVariants as file
use Rattle.opt_base.specs.declared.refusal.Kind.TheVariants.{OutOfRange}
use Rattle.opt_base.specs.declared.refusal.ModelFault.{ModelFault}
use Rattle.opt_base.specs.declared.refusal.ModelFault.TheVariants.{Refused}
use Rattle.opt_base.specs.declared.refusal.Refusal.{Refusal}
use Rattle.opt_base.proofs.Each.{each_goes_on, each_fails}
use Rattle.opt_model.specs.Quantities.{quantities, low}
use Rattle.opt_model.specs.Tables.{Tables}
use Rattle.opt_model.specs.declared.quantity.Quantity.{Quantity}
use Rattle.opt_network.specs.Numbering.{Numbering, IsLayoutOf, IsNumbering, IsSpan}
use Rattle.opt_rows.specs.Systems.{root_of}
use Rattle.opt_sums.specs.Sums.{at}
use Rattle.opt_tables.specs.Facts.{IsFrom}
use Rattle.opt_tables.specs.Records.{Record, row_of}
use Rattle.opt_report.specs.PlanFiles.{Listed, AreListed, with_row, with_record, with_next, value_or_none}
use Rattle.opt_report.proofs.Listing.{same_lows, same_highs}
use Rattle.opt_report.proofs.ReadSubjects.{plan_row}

-- what is not above 0
not_above : (z : ℤ) → int_lt (pos 0) z ≡ false → z ≤ℤ pos 0
not_above z e = grind (arith, ints)

-- a fault that is a refusal is what reading gives
pub refused_gives : {X Y : Type 0} (view : X → Y) (result : Result X ModelFault) (read : Result Y Refusal) (refusal : Refusal) → IsErrAnd result (λ fault. fault ≡ Refused refusal) → read ≡ Err refusal
    → Gives view result read
refused_gives view (Ok x) read refusal is e = absurd is
refused_gives view (Err fault) read refusal is e = rw is e

-- the record after so many
pub row_next : (cells : List (List (List ℕ))) (i : ℕ) → row_of file.Plan cells (i + 1) ≡ plan_row (i + 1) (get_or cells i [])
row_next cells i =
    let one : nat_lt 0 (i + 1) ≡ true = lt-ltb 0 (i + 1) (omega arith) in
    let place : i + 1 - 1 ≡ i = omega arith in
    ap (λ fields. plan_row (i + 1) fields) (ap (λ b. cond b (slice_index_or cells (i + 1 - 1) []) []) one ∙ ap (λ n. slice_index_or cells n []) place)

module _ (t : Tables) (cells : List (List (List ℕ))) (i : ℕ) (h : i < length cells) (row : Record) (is : row ≡ row_of file.Plan cells (i + 1)) where
  same_row : plan_row (i + 1) (get_or cells i []) ≡ row
  same_row = sym (is ∙ row_next cells i)

  -- what a record lists is listed, and the loop goes on
  pub rows_go_on : (made more : Listed) (whole : Result Listed Refusal) → with_row t row made ≡ Ok more → each (with_record t) (i + 1) made (drop i cells) ≡ whole
      → each (with_record t) (i + 1 + 1) more (drop (i + 1) cells) ≡ whole
  rows_go_on made more whole taken so_far =
      sym (each_goes_on (with_record t) (i + 1) made more cells i [] h (ap (λ r. with_row t r made) same_row ∙ taken)) ∙ so_far

  -- a refused record is the refusal of all
  pub rows_fail : (made : Listed) (refusal : Refusal) (whole : Result Listed Refusal) → with_row t row made ≡ Err refusal → each (with_record t) (i + 1) made (drop i cells) ≡ whole
      → whole ≡ Err refusal
  rows_fail made refusal whole failed so_far =
      sym so_far ∙ each_fails (with_record t) (i + 1) made refusal cells i [] h (ap (λ r. with_row t r made) same_row ∙ failed)

module _ (t : Tables) (layout : Numbering) (is : IsLayoutOf t layout) (numbering : IsNumbering layout) (listed : Listed) (are : AreListed t listed) (i : ℕ) (h : i < length (quantities t)) (d : Quantity) where
  here : with_next t listed (i + 1) (get_or (quantities t) i d) ≡ λ made. value_or_none (at layout.lows i) (slice_index_or listed i None) >>= λ value. Ok (made ++ value ∷ [])
  here =
      let place : i + 1 - 1 ≡ i = omega arith in
      let lowest : low t (get_or (quantities t) i d) ≡ at layout.lows i =
      sym (ap (λ lows. at lows i) (same_lows t layout is) ∙ get_or-map (low t) (quantities t) i d (pos 0) h) in
      ap (λ n. λ made. value_or_none (low t (get_or (quantities t) i d)) (slice_index_or listed n None) >>= λ value. Ok (made ++ value ∷ [])) place
      ∙ ap (λ z. λ made. value_or_none z (slice_index_or listed i None) >>= λ value. Ok (made ++ value ∷ [])) lowest

  -- one more value, and the loop goes on
  pub values_go_on : (made more : List ℤ) (z : ℤ) (whole : Result (List ℤ) Refusal) → Ok z ≡ value_or_none (at layout.lows i) (slice_index_or listed i None) → more ≡ made ++ z ∷ []
      → each (with_next t listed) (i + 1) made (drop i (quantities t)) ≡ whole → each (with_next t listed) (i + 1 + 1) more (drop (i + 1) (quantities t)) ≡ whole
  values_go_on made more z whole value next so_far =
      let taken : with_next t listed (i + 1) (get_or (quantities t) i d) made ≡ Ok more =
      ap (λ f. f made) here ∙ (ap (λ r. r >>= λ v. Ok (made ++ v ∷ [])) (sym value) ∙ ap Ok (sym next)) in
      sym (each_goes_on (with_next t listed) (i + 1) made more (quantities t) i d h taken) ∙ so_far

  -- a value that is refused is the refusal of all
  pub values_fail : (made : List ℤ) (refusal : Refusal) (whole : Result (List ℤ) Refusal) → Err refusal ≡ value_or_none (at layout.lows i) (slice_index_or listed i None)
      → each (with_next t listed) (i + 1) made (drop i (quantities t)) ≡ whole → whole ≡ Err refusal
  values_fail made refusal whole value so_far =
      let failed : with_next t listed (i + 1) (get_or (quantities t) i d) made ≡ Err refusal =
      ap (λ f. f made) here ∙ ap (λ r. r >>= λ v. Ok (made ++ v ∷ [])) (sym value) in
      sym so_far ∙ each_fails (with_next t listed) (i + 1) made refusal (quantities t) i d h failed

  lows : at layout.lows i ≡ at (root_of t).low i
  lows = ap (λ zs. at zs i) (same_lows t layout is)

  highs : at layout.highs i ≡ at (root_of t).high i
  highs = ap (λ zs. at zs i) (same_highs t layout is)

  pub span_at : IsSpan (at layout.lows i) (at layout.highs i)
  span_at = numbering.spans i (subst (λ (n : ℕ). i < n) (sym (ap (λ (n : Numbering). length n.quantities) is.same)) h)

  -- the value lies in the quantity's range
  pub value_within : (z : ℤ) → Ok z ≡ value_or_none (at layout.lows i) (slice_index_or listed i None) → IsFrom (at (root_of t).low i) (at (root_of t).high i) z
  value_within z value = by (slice_index_or listed i None) refl (are.within i (omega (arith, h, are.one_each)))
    where
      none : (b : Bool) → int_lt (pos 0) (at layout.lows i) ≡ b → Ok z ≡ (if b then Err (refusal_at file.Plan 0 5 OutOfRange) else Ok (pos 0)) → IsFrom (at (root_of t).low i) (at (root_of t).high i) z
      none true e v = cc
      none false e v =
          let is_none : z ≡ pos 0 = cc in
          let lowest : at layout.lows i ≤ℤ pos 0 = not_above (at layout.lows i) e in
          record { above = omega (arith, ints, lowest, lows, is_none); below = omega (arith, ints, highs, is_none, span_at.from_zero, span_at.rising) }

      by : (o : Option ℤ) → slice_index_or listed i None ≡ o → IfSome o (IsFrom (at (root_of t).low i) (at (root_of t).high i)) → IsFrom (at (root_of t).low i) (at (root_of t).high i) z
      by (Some v) e within =
          let same : Ok z ≡ Ok v = value ∙ ap (value_or_none (at layout.lows i)) e in
          let equal : v ≡ z = cc in
          subst (IsFrom (at (root_of t).low i) (at (root_of t).high i)) equal within
      by None e within = none (int_lt (pos 0) (at layout.lows i)) refl (value ∙ ap (value_or_none (at layout.lows i)) e)

  -- it is small
  pub value_small : (z : ℤ) → Ok z ≡ value_or_none (at layout.lows i) (slice_index_or listed i None) → IsFrom (pos 0) (pos (2 ^ 40)) z
  value_small z value =
      let within = value_within z value in
      record { above = omega (arith, ints, within.above, lows, span_at.from_zero); below = omega (arith, ints, within.below, highs, span_at.small) }

-- the values so far and one more lie in their ranges
pub within_more : (t : Tables) (made more : List ℤ) (i : ℕ) (z : ℤ) → length made ≡ i → more ≡ made ++ z ∷ []
    → ((j : ℕ) → j < i → IsFrom (at (root_of t).low j) (at (root_of t).high j) (at made j)) → IsFrom (at (root_of t).low i) (at (root_of t).high i) z
    → (j : ℕ) → j < i + 1 → IsFrom (at (root_of t).low j) (at (root_of t).high j) (at more j)
within_more t made more i z size next so_far is j h = rw next (by (below_or_last j i h))
  where
    below_or_last : (m n : ℕ) → m < n + 1 → (m < n) ⊎ (m ≡ n)
    below_or_last m n k = grind arith

    by : (j < i) ⊎ (j ≡ i) → IsFrom (at (root_of t).low j) (at (root_of t).high j) (at (made ++ z ∷ []) j)
    by (inl below) = rw (get_or_append_left made (z ∷ []) (pos 0) j (omega (arith, below, size))) (so_far j below)
    by (inr last) = rw (last, get_or_push made z (pos 0) i size) is
