-- The law of rows: the system of a model says just what the model does.
use Rattle.std.proofs.Common.{◌≡◌, ◌≢◌, ◌⊎◌, inl, inr, ◌+◌, ◌<◌, Bool, true, false, List, length, get_or, map, Option, ℤ, pos, ◌*ℤ◌, Contains, refl, ap, sym, ◌∙◌, subst, arith}
use Rattle.std.specs.Ordering.{int_eq}
use Rattle.std.specs.Cmp.{signed_Decides}
use Rattle.std.proofs.lemmas.Bool.{true≢false}
use Rattle.std.proofs.lemmas.List.{length-map, get_or-map, ext_get_or}
use Rattle.std.proofs.lemmas.List.Elements.{All-append}
use mathlib.Core.Path.{fun_ext}
use Rattle.opt_sums.specs.Sums.{at, sum_to}
use Rattle.opt_sums.proofs.SumLemmas.{sum_to-same}
use Rattle.opt_model.specs.Tables.{Tables}
use Rattle.opt_model.specs.Quantities.{quantities}
use Rattle.opt_model.specs.Rows.{rows, coefficient}
use Rattle.opt_model.specs.Plans.{Plan, goal_terms, sum_of, plan_of}
use Rattle.opt_model.specs.declared.records.Goal.{Goal}
use Rattle.opt_model.specs.declared.quantity.Quantity.{Quantity}
use Rattle.opt_model.specs.declared.quantity.Quantity.TheVariants.{Ration}
use Rattle.opt_model.proofs.Feasibility.{plan_of_lists_only}
use Rattle.opt_system.specs.Rows as system
use Rattle.opt_system.specs.Systems.{Meets, value}
use Rattle.opt_rows.specs.Systems.{SystemRow, row_over, cap_rows, costs_of, system_of}
use Rattle.opt_rows.specs.Laws.{IsAllowed, IsAllowedList, IsPlanOfJust, IsMetBy, SpeaksFor}
use Rattle.opt_rows.proofs.Totals.{sum_to-total}
use Rattle.opt_rows.proofs.Numbering.{AreDistinct, plan_at, total-terms}
use Rattle.opt_rows.proofs.Feasibility.{all_left, all_right, rows_forth, rows_back, cap_forth, cap_back, ranges_forth, ranges_back}

-- a number is 0 or is not
none_or_some : (z : ℤ) (b : Bool) → int_eq z (pos 0) ≡ b → (z ≡ pos 0) ⊎ (z ≢ pos 0)
none_or_some z true e = inl ((signed_Decides z (pos 0)).0 e)
none_or_some z false e = inr (λ same. true≢false (sym ((signed_Decides z (pos 0)).1 same) ∙ e))

-- the values that a plan gives to a list of quantities
abbrev pub values_of : List Quantity → Plan → List ℤ
values_of qs plan = map plan qs

module _ (qs : List Quantity) (distinct : AreDistinct qs) (plan : Plan) (listed : (q : Quantity) → plan q ≢ pos 0 → Contains qs q) where
  -- the plan of the values has them at the quantities of the list
  at_listed : (q : Quantity) → Contains qs q → plan_of qs (values_of qs plan) q ≡ plan q
  at_listed q (k, within, is) =
      let here : plan_of qs (values_of qs plan) (get_or qs k q) ≡ at (values_of qs plan) k = plan_at qs (values_of qs plan) k q distinct within in
      let there : at (values_of qs plan) k ≡ plan (get_or qs k q) = get_or-map plan qs k q (pos 0) within in
      subst (λ (r : Quantity). plan_of qs (values_of qs plan) r ≡ plan r) is (here ∙ there)

  same_at : (q : Quantity) → plan_of qs (values_of qs plan) q ≡ plan q
  same_at q =
      elim (none_or_some (plan q) (int_eq (plan q) (pos 0)) refl) [
        | inr other ↦ at_listed q (listed q other)
        | inl none ↦
            elim (none_or_some (plan_of qs (values_of qs plan) q) (int_eq (plan_of qs (values_of qs plan) q) (pos 0)) refl) [
              | inr other ↦ at_listed q (plan_of_lists_only qs (values_of qs plan) q other)
              | inl too ↦ too ∙ sym none
            ]
      ]

  only_values : (x : List ℤ) → length x ≡ length qs → plan_of qs x ≡ plan → x ≡ values_of qs plan
  only_values x long same =
      ext_get_or (pos 0) x (values_of qs plan) (long ∙ sym (length-map qs plan))
      (λ i in_list.
      let within : i < length qs = omega arith in
      let d : Quantity = Ration 0 0 0 in
      sym (plan_at qs x i d distinct within) ∙ (ap (λ (p : Plan). p (get_or qs i d)) same ∙ sym (get_or-map plan qs i d (pos 0) within)))

  pub plan_of_values : IsPlanOfJust qs plan (values_of qs plan)
  plan_of_values = record { one_each = length-map qs plan; same = fun_ext same_at; only = only_values }

module _ (t : Tables) (distinct : AreDistinct (quantities t)) (goal : Goal) (cap : Option ℤ) where
  meets_forth : (x : List ℤ) → Meets (system_of t goal cap) x → IsAllowedList t cap x
  meets_forth x h =
      let front : List SystemRow = map (row_over (quantities t)) (rows t) in
      record {
        one_each = h.in_range.same_length ∙ length-map (quantities t) _;
        allowed = record {
          feasible = record {
            lists_only = plan_of_lists_only (quantities t) x;
            in_range = ranges_forth t distinct x h.in_range;
            rows_hold = rows_forth (quantities t) distinct x (rows t) (all_left (λ (row : SystemRow). system.Holds row x) front (cap_rows t cap) h.rows_hold);
          };
          capped = cap_forth t distinct x cap (all_right (λ (row : SystemRow). system.Holds row x) front (cap_rows t cap) h.rows_hold);
        };
      }

  meets_back : (x : List ℤ) → IsAllowedList t cap x → Meets (system_of t goal cap) x
  meets_back x h = record {
    in_range = ranges_back t distinct x h.one_each h.allowed.feasible.in_range;
    rows_hold =
        All-append (λ (row : SystemRow). system.Holds row x) (map (row_over (quantities t)) (rows t)) (cap_rows t cap)
        (rows_back (quantities t) distinct x (rows t) h.allowed.feasible.rows_hold) (cap_back t distinct x cap h.allowed.capped);
  }

  costs_are : (x : List ℤ) → value (system_of t goal cap) x ≡ sum_of (goal_terms t goal) (plan_of (quantities t) x)
  costs_are x =
      ap (λ n. sum_to n (λ j. at (costs_of t goal) j *ℤ at x j)) (length-map (quantities t) (coefficient (goal_terms t goal)))
      ∙ (sum_to-same (length (quantities t)) (λ j. at (costs_of t goal) j *ℤ at x j) (λ j. at (costs_of t goal) j *ℤ at x (0 + j))
      (λ j below. let e : j ≡ 0 + j = omega arith in ap (λ n. at (costs_of t goal) j *ℤ at x n) e)
      ∙ (sum_to-total (coefficient (goal_terms t goal)) (at x) 0 (quantities t) ∙ total-terms (quantities t) x (goal_terms t goal) distinct))

  listed_by : (plan : Plan) → IsAllowed t cap plan → (values : List ℤ) × IsMetBy t goal (system_of t goal cap) plan values
  listed_by plan h =
      let values : List ℤ = values_of (quantities t) plan in
      let just : IsPlanOfJust (quantities t) plan values = plan_of_values (quantities t) distinct plan h.feasible.lists_only in
      let allowed : IsAllowed t cap (plan_of (quantities t) values) = subst (λ (p : Plan). IsAllowed t cap p) (sym just.same) h in (
        values,
        record {
          plan_of_just = just;
          met = meets_back values (record { one_each = just.one_each; allowed = allowed });
          costs = costs_are values ∙ ap (λ (p : Plan). sum_of (goal_terms t goal) p) just.same;
        },
      )

  -- the system of a model says just what the model does
  pub law : SpeaksFor t goal cap (system_of t goal cap)
  law = record {
    meets = λ x. (meets_forth x, meets_back x);
    costs = λ x long. costs_are x;
    listed = listed_by;
  }
