-- The records of a plan file, one by one.
use Rattle.std.proofs.Common.{◌≡◌, ℕ, ◌+◌, ◌<◌, ◌^◌, List, [], ◌∷◌, ◌++◌, length, take, position, Some, ℤ, pos, not, refl, sym, ap, subst, ◌∙◌, arith}
use Rattle.std.specs.Fmt.{decimal, signed_decimal}
use Rattle.std.specs.List.{flat_map}
use Rattle.std.specs.Option.{option_map_or}
use Rattle.std.specs.Ordering.{int_eq}
use Rattle.std.proofs.lemmas.Int.{ints}
use Rattle.std.proofs.lemmas.List.{take_more, flat_map_more, length-map}
use Rattle.csv.specs.Writing.{row_text, default_writer}
use Rattle.opt_model.specs.Plans.{Plan, plan_of}
use Rattle.opt_model.specs.Quantities.{quantities, low, list_if, same_quantity}
use Rattle.opt_model.specs.Tables.{Tables}
use Rattle.opt_model.specs.Texts.{words_of, month_of, plan_amount, plan_fields, plan_records}
use Rattle.opt_model.specs.declared.quantity.Quantity.{Quantity}
use Rattle.opt_model.specs.declared.quantity.Quantity.TheVariants.{Ration, Short, Buy, Ship, Keep, Feed, Order}
use Rattle.opt_network.specs.Numbering.{Numbering, IsLayoutOf, IsNumbering, IsSpan}
use Rattle.opt_rows.specs.Systems.{root_of}
use Rattle.opt_sums.specs.Sums.{at}
use Rattle.opt_system.specs.Ranges.{IsWithin}
use Rattle.opt_tables.specs.Facts.{IsFrom}
use Rattle.opt_report.specs.PlanFiles.{record_of}
use Rattle.opt_report.specs.Units.{amount_of}
use Rattle.opt_report.proofs.Listing.{stands_at}

-- the amount of a quantity's value is that of the plan
pub amount_is : (t : Tables) (plan : Plan) (q : Quantity) → amount_of t q (plan q) ≡ plan_amount t plan q
amount_is t plan (Ration b c m) = refl
amount_is t plan (Short d m) = omega (arith, ints)
amount_is t plan (Buy o m) = omega (arith, ints)
amount_is t plan (Ship a c m) = omega (arith, ints)
amount_is t plan (Keep p c m) = omega (arith, ints)
amount_is t plan (Feed p c m) = omega (arith, ints)
amount_is t plan (Order o m) = omega (arith, ints)

-- the record of a quantity's value is that of the plan
pub record_is : (t : Tables) (plan : Plan) (q : Quantity)
    → record_of t q (plan q) ≡ list_if (not (int_eq (plan q) (pos 0))) (row_text default_writer (plan_fields t plan q))
record_is t plan q =
    ap (λ z. list_if (not (int_eq (plan q) (pos 0))) (row_text default_writer (words_of t q ++ decimal (month_of q) ∷ signed_decimal z ∷ []))) (amount_is t plan q)

-- what the plan of a list of values gives a quantity with a number
pub value_is : (qs : List Quantity) (x : List ℤ) (q : Quantity) (number : ℕ) → position (same_quantity q) qs ≡ Some number → plan_of qs x q ≡ at x number
value_is qs x q number found = ap (λ o. option_map_or (λ n. at x n) o (pos 0)) found

-- the records of the quantities so far, and one more
pub records_more : (t : Tables) (x : List ℤ) (start text new : List ℕ) (q : Quantity) (number : ℕ) → position (same_quantity q) (quantities t) ≡ Some number
    → text ≡ start ++ plan_records t (plan_of (quantities t) x) (take number (quantities t)) → new ≡ text ++ record_of t q (at x number)
    → new ≡ start ++ plan_records t (plan_of (quantities t) x) (take (number + 1) (quantities t))
records_more t x start text new q number found so_far more =
    let plan : Plan = plan_of (quantities t) x in
    let record_at : Quantity → List ℕ = λ r. list_if (not (int_eq (plan r) (pos 0))) (row_text default_writer (plan_fields t plan r)) in
    let here = stands_at t q number found q in
    more
    ∙ (ap (λ z. text ++ record_of t q z) (sym (value_is (quantities t) x q number found))
    ∙ (ap (λ xs. text ++ xs) (record_is t plan q)
    ∙ (ap (λ xs. xs ++ record_at q) so_far
    ∙ (flat_map_more record_at start (take number (quantities t)) q
    ∙ (ap (λ r. start ++ flat_map record_at (take number (quantities t) ++ r ∷ [])) (sym here.1)
    ∙ ap (λ rs. start ++ flat_map record_at rs) (sym (take_more (quantities t) number q here.0)))))))

-- a value within the ranges of a layout is from 0 to 2^40
pub value_small : (layout : Numbering) (x : List ℤ) (number : ℕ) → IsNumbering layout → IsWithin (record { low = layout.lows; high = layout.highs }) x
    → number < length x → IsFrom (pos 0) (pos (2 ^ 40)) (at x number)
value_small layout x number is within h =
    let span : IsSpan (at layout.lows number) (at layout.highs number) = is.spans number (omega (arith, h, within.same_length, is.lows)) in
    record {
      above = omega (arith, ints, span.from_zero, within.above number h);
      below = omega (arith, ints, span.small, within.below number h);
    }

-- a point within the ranges of a model is within those of its layout
pub within_layout : (t : Tables) (layout : Numbering) (x : List ℤ) → IsLayoutOf t layout → IsWithin (root_of t) x → IsWithin (record { low = layout.lows; high = layout.highs }) x
within_layout t layout x is within =
    subst (λ (n : Numbering). IsWithin (record { low = n.lows; high = n.highs }) x) (sym is.same) within

-- it has a value for each quantity
pub one_each : (t : Tables) (x : List ℤ) → IsWithin (root_of t) x → length x ≡ length (quantities t)
one_each t x within = within.same_length ∙ length-map (quantities t) (low t)
