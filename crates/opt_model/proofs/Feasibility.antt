-- Feasibility as a test that computes, for models and plans that are written out.
use Rattle.std.proofs.Common.{◌≡◌, ◌≢◌, ℕ, ◌<◌, Bool, true, false, ◌&&◌, List, length, get_or, Option, Some, None, ℤ, pos, ◌≤ℤ◌, int_le, Contains, refl, sym, subst}
use Rattle.std.specs.Int.Signed.{le_z, le_z_yes}
use lib.Dec.{T}
use Rattle.std.specs.List.{list_all, position}
use Rattle.std.specs.Option.{option_map_or}
use Rattle.std.specs.Ordering.{int_eq}
use Rattle.std.specs.Cmp.{signed_Decides}
use Rattle.std.proofs.lemmas.Bool.{and_parts}
use Rattle.std.proofs.lemmas.List.Sums.{AllPass-from_list_all}
use Rattle.std.proofs.lemmas.List.Quantifiers.{position-Some}
use Rattle.opt_model.specs.Tables.{Tables}
use Rattle.opt_model.specs.Quantities.{quantities, low, high, same_quantity}
use Rattle.opt_model.specs.Rows.{Relation, at_least, equal, Row, rows}
use Rattle.opt_model.specs.Plans.{Plan, sum_of, Stands, Feasible, plan_of}
use Rattle.opt_model.specs.declared.quantity.Quantity.{Quantity}
use Rattle.opt_model.proofs.Quantities.{same_quantity-true}

-- a test passed, as a fact
pub le_from_test : (x y : ℤ) → int_le x y ≡ true → x ≤ℤ y
le_from_test x y e = le_z_yes (subst T (sym e) tt)

-- a fact, as a test passed
pub test_from_le : (x y : ℤ) → x ≤ℤ y → int_le x y ≡ true
test_from_le x y h = cases (le_z x y) h.le
  where
    cases : (b : Bool) → T b → b ≡ true
    cases true h = refl
    cases false h = absurd h

-- a quantity's value lies within its range
abbrev pub is_within : Tables → Plan → Quantity → Bool
is_within t plan q = int_le (low t q) (plan q) && int_le (plan q) (high t q)

-- a sum stands as a row says
abbrev pub stands : Relation → ℤ → ℤ → Bool
stands at_least left right = int_le right left
stands equal left right = int_eq left right

-- a plan meets a row
abbrev pub holds : Plan → Row → Bool
holds plan r = stands r.relation (sum_of r.left plan) r.right

-- a plan is within all ranges and meets all rows
abbrev pub is_feasible : Tables → Plan → Bool
is_feasible t plan = list_all (is_within t plan) (quantities t) && list_all (holds plan) (rows t)

stands_fact : (r : Relation) (x y : ℤ) → stands r x y ≡ true → Stands r x y
stands_fact at_least x y e = le_from_test y x e
stands_fact equal x y e = (signed_Decides x y).0 e

stands_test : (r : Relation) (x y : ℤ) → Stands r x y → stands r x y ≡ true
stands_test at_least x y h = test_from_le y x h
stands_test equal x y h = (signed_Decides x y).1 h

-- what a place in a list of quantities says of a quantity
listed : (qs : List Quantity) (xs : List ℤ) (q : Quantity) (o : Option ℕ) → position (same_quantity q) qs ≡ o → option_map_or (λ number. get_or xs number (pos 0)) o (pos 0) ≢ pos 0 → Contains qs q
listed qs xs q None e other = absurd (other refl)
listed qs xs q (Some i) e other =
    let found : (i < length qs) × (same_quantity q (get_or qs i q) ≡ true) × ((k : ℕ) → k < i → same_quantity q (get_or qs k q) ≡ false) = position-Some (same_quantity q) qs i q e in
    (i, found.0, sym (same_quantity-true q (get_or qs i q) found.1))

-- the plan of a list of values lists members of the list of quantities alone
pub plan_of_lists_only : (qs : List Quantity) (xs : List ℤ) (q : Quantity) → plan_of qs xs q ≢ pos 0 → Contains qs q
plan_of_lists_only qs xs q other = listed qs xs q (position (same_quantity q) qs) refl other

-- a plan of values that passes the test is feasible
pub feasible_from_test : (t : Tables) (xs : List ℤ) → is_feasible t (plan_of (quantities t) xs) ≡ true → Feasible t (plan_of (quantities t) xs)
feasible_from_test t xs e =
    let plan : Plan = plan_of (quantities t) xs in
    let parts : (list_all (is_within t plan) (quantities t) ≡ true) × (list_all (holds plan) (rows t) ≡ true) = and_parts _ _ e in
    record {
      lists_only = plan_of_lists_only (quantities t) xs;
      in_range = λ k d h.
          let both : (int_le (low t (get_or (quantities t) k d)) (plan (get_or (quantities t) k d)) ≡ true) × (int_le (plan (get_or (quantities t) k d)) (high t (get_or (quantities t) k d)) ≡ true) =
          and_parts _ _ (AllPass-from_list_all (is_within t plan) (quantities t) parts.0 k d h) in
          (le_from_test _ _ both.0, le_from_test _ _ both.1);
      rows_hold = λ k d h. stands_fact (get_or (rows t) k d).relation _ _ (AllPass-from_list_all (holds plan) (rows t) parts.1 k d h);
    }

-- where a row fails its test, the plan is not feasible
pub not_feasible_from_row : (t : Tables) (plan : Plan) (k : ℕ) (d : Row) → k < length (rows t) → holds plan (get_or (rows t) k d) ≡ false → Feasible t plan → ⊥
not_feasible_from_row t plan k d h e feasible =
    let yes : holds plan (get_or (rows t) k d) ≡ true = stands_test (get_or (rows t) k d).relation _ _ (feasible.rows_hold k d h) in
    cc
