-- A list of values meets each row of a system, and lies in its ranges, just where its plan does.
use Rattle.std.proofs.Common.{◌≡◌, ℕ, ◌+◌, ◌<◌, List, [], ◌∷◌, ◌++◌, length, get_or, map, Option, Some, None, ℤ, pos, neg_ℤ, ◌≤ℤ◌, All, refl, sym, ◌∙◌, subst, arith, length-append}
use Rattle.std.proofs.lemmas.Int.{ints}
use Rattle.std.proofs.lemmas.List.{length-map, get_or-map, get_or_append_left, get_or-append-add}
use Rattle.std.proofs.lemmas.List.Elements.{All-head, All-map, All-cons, All-nil}
use Rattle.opt_sums.specs.Sums.{at}
use Rattle.opt_sums.specs.Entries.{dot}
use Rattle.opt_sums.proofs.Ring.{neg_mul}
use Rattle.opt_model.specs.Tables.{Tables}
use Rattle.opt_model.specs.Quantities.{quantities, low, high}
use Rattle.opt_model.specs.Rows.{Terms, Relation, at_least, equal, Row, negation, lack_terms, coefficients_by_number}
use Rattle.opt_model.specs.Plans.{Plan, sum_of, Stands, Holds, plan_of}
use Rattle.opt_model.specs.declared.quantity.Quantity.{Quantity}
use Rattle.opt_model.specs.declared.quantity.Quantity.TheVariants.{Ration}
use Rattle.opt_system.specs.Ranges.{IsWithin}
use Rattle.opt_system.specs.Rows as system
use Rattle.opt_rows.specs.Systems.{SystemRow, kind_of, row_over, cap_rows, root_of}
use Rattle.opt_rows.specs.Laws.{KeepsCap}
use Rattle.opt_rows.proofs.Numbering.{AreDistinct, sum_is_dot, plan_at}

-- equal sums stand alike
stands_forth : (relation : Relation) (a b right : ℤ) → a ≡ b → system.Stands (kind_of relation) a right → Stands relation b right
stands_forth at_least a b right e h = subst (λ z. right ≤ℤ z) e h
stands_forth equal a b right e h = sym e ∙ h

stands_back : (relation : Relation) (a b right : ℤ) → a ≡ b → Stands relation b right → system.Stands (kind_of relation) a right
stands_back at_least a b right e h = subst (λ z. right ≤ℤ z) (sym e) h
stands_back equal a b right e h = e ∙ h

-- the sum of the terms with the other sign
sum_of-negation : (terms : Terms) (plan : Plan) → sum_of (negation terms) plan ≡ neg_ℤ (sum_of terms plan)
sum_of-negation [] plan = refl
sum_of-negation (term ∷ terms) plan = omega (arith, ints, neg_mul term.1 (plan term.0), sum_of-negation terms plan)

-- what holds of two lists holds of each
pub all_left : {X : Type 0} (P : X → Type 0) (xs ys : List X) → All P (xs ++ ys) → All P xs
all_left P xs ys h k d within =
    subst P (get_or_append_left xs ys d k within) (h k d (omega (arith, length-append xs ys)))

pub all_right : {X : Type 0} (P : X → Type 0) (xs ys : List X) → All P (xs ++ ys) → All P ys
all_right P xs ys h k d within =
    subst P (get_or-append-add xs ys k d) (h (length xs + k) d (omega (arith, length-append xs ys)))

module _ (qs : List Quantity) (distinct : AreDistinct qs) (x : List ℤ) where
  pub holds_forth : (r : Row) → system.Holds (row_over qs r) x → Holds (plan_of qs x) r
  holds_forth r h =
      stands_forth r.relation (dot (coefficients_by_number qs r.left) x) (sum_of r.left (plan_of qs x)) r.right (sum_is_dot qs x r.left distinct) h

  pub holds_back : (r : Row) → Holds (plan_of qs x) r → system.Holds (row_over qs r) x
  holds_back r h =
      stands_back r.relation (dot (coefficients_by_number qs r.left) x) (sum_of r.left (plan_of qs x)) r.right (sum_is_dot qs x r.left distinct) h

  pub rows_forth : (rs : List Row) → All (λ row. system.Holds row x) (map (row_over qs) rs) → All (Holds (plan_of qs x)) rs
  rows_forth rs h k d within =
      let inside : k < length (map (row_over qs) rs) = omega (arith, length-map rs (row_over qs)) in
      holds_forth (get_or rs k d)
      (subst (λ (row : SystemRow). system.Holds row x) (get_or-map (row_over qs) rs k d (row_over qs d) within) (h k (row_over qs d) inside))

  pub rows_back : (rs : List Row) → All (Holds (plan_of qs x)) rs → All (λ row. system.Holds row x) (map (row_over qs) rs)
  rows_back rs h =
      All-map (λ (row : SystemRow). system.Holds row x) (row_over qs) rs (λ k d within. holds_back (get_or rs k d) (h k d within))

module _ (t : Tables) (distinct : AreDistinct (quantities t)) (x : List ℤ) where
  lack_is_dot : dot (coefficients_by_number (quantities t) (negation (lack_terms t))) x ≡ neg_ℤ (sum_of (lack_terms t) (plan_of (quantities t) x))
  lack_is_dot = sum_is_dot (quantities t) x (negation (lack_terms t)) distinct ∙ sum_of-negation (lack_terms t) (plan_of (quantities t) x)

  pub cap_forth : (cap : Option ℤ) → All (λ row. system.Holds row x) (cap_rows t cap) → KeepsCap t cap (plan_of (quantities t) x)
  cap_forth None h = tt
  cap_forth (Some most) h =
      let met : neg_ℤ most ≤ℤ dot (coefficients_by_number (quantities t) (negation (lack_terms t))) x = All-head (λ (row : SystemRow). system.Holds row x) _ [] h in
      omega (arith, ints, met, lack_is_dot)

  pub cap_back : (cap : Option ℤ) → KeepsCap t cap (plan_of (quantities t) x) → All (λ row. system.Holds row x) (cap_rows t cap)
  cap_back None h = All-nil (λ (row : SystemRow). system.Holds row x)
  cap_back (Some most) h =
      let kept : sum_of (lack_terms t) (plan_of (quantities t) x) ≤ℤ most = h in
      let met : neg_ℤ most ≤ℤ dot (coefficients_by_number (quantities t) (negation (lack_terms t))) x = omega (arith, ints, kept, lack_is_dot) in
      All-cons (λ (row : SystemRow). system.Holds row x) _ [] met (All-nil (λ (row : SystemRow). system.Holds row x))

  -- a quantity that stands for none
  abbrev any_quantity : Quantity
  any_quantity = Ration 0 0 0

  -- a number of each quantity, by its number
  at_map : (f : Quantity → ℤ) (i : ℕ) (d : Quantity) → i < length (quantities t) → at (map f (quantities t)) i ≡ f (get_or (quantities t) i d)
  at_map f i d within = get_or-map f (quantities t) i d (pos 0) within

  pub ranges_forth : IsWithin (root_of t) x → All (λ q. (low t q ≤ℤ plan_of (quantities t) x q) × (plan_of (quantities t) x q ≤ℤ high t q)) (quantities t)
  ranges_forth h k d within =
      let here : plan_of (quantities t) x (get_or (quantities t) k d) ≡ at x k = plan_at (quantities t) x k d distinct within in
      let same : length x ≡ length (quantities t) = h.same_length ∙ length-map (quantities t) (low t) in
      let above : at (map (low t) (quantities t)) k ≤ℤ at x k = h.above k (omega arith) in
      let below : at x k ≤ℤ at (map (high t) (quantities t)) k = h.below k (omega arith) in
      let lows : at (map (low t) (quantities t)) k ≡ low t (get_or (quantities t) k d) = at_map (low t) k d within in
      let highs : at (map (high t) (quantities t)) k ≡ high t (get_or (quantities t) k d) = at_map (high t) k d within in
      (omega (arith, ints, here, above, lows), omega (arith, ints, here, below, highs))

  pub ranges_back : length x ≡ length (quantities t) → All (λ q. (low t q ≤ℤ plan_of (quantities t) x q) × (plan_of (quantities t) x q ≤ℤ high t q)) (quantities t) → IsWithin (root_of t) x
  ranges_back same h = record {
    same_length = same ∙ sym (length-map (quantities t) (low t));
    above = λ j in_list.
        let within : j < length (quantities t) = omega arith in
        let both : (low t (get_or (quantities t) j any_quantity) ≤ℤ plan_of (quantities t) x (get_or (quantities t) j any_quantity))
        × (plan_of (quantities t) x (get_or (quantities t) j any_quantity) ≤ℤ high t (get_or (quantities t) j any_quantity)) = h j any_quantity within in
        omega (arith, ints, both.0, plan_at (quantities t) x j any_quantity distinct within, at_map (low t) j any_quantity within);
    below = λ j in_list.
        let within : j < length (quantities t) = omega arith in
        let both : (low t (get_or (quantities t) j any_quantity) ≤ℤ plan_of (quantities t) x (get_or (quantities t) j any_quantity))
        × (plan_of (quantities t) x (get_or (quantities t) j any_quantity) ≤ℤ high t (get_or (quantities t) j any_quantity)) = h j any_quantity within in
        omega (arith, ints, both.1, plan_at (quantities t) x j any_quantity distinct within, at_map (high t) j any_quantity within);
  }
