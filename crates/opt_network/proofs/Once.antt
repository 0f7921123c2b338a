-- How often a quantity stands in a list that is made record by record and month by month.
use Rattle.std.proofs.Common.{◌≡◌, ℕ, ◌+◌, ◌<◌, ◌≤◌, zero, suc, Bool, true, false, ◌&&◌, cond, List, [], ◌∷◌, ◌++◌, length, count_by, inl, inr, Option, Some, None, refl, sym, ap, ◌∙◌, arith}
use Rattle.std.specs.Prelude.{◌==◌, nat_lt, nat_le, slice_get}
use Rattle.std.specs.List.{flat_map, range_with_len}
use Rattle.std.specs.Option.{option_map_or}
use Rattle.std.proofs.lemmas.Bool.{cases_Bool, eqb-true, eq-eqb, ne_eqb, le-ltb, lt-ltb, cases_lt, cases_eq, lt-leb, le-leb}
use Rattle.std.proofs.lemmas.List.Sums.{sum_by-append}
use Rattle.std.proofs.lemmas.Option.{slice_get_cases}
use Rattle.std.proofs.Math.Bool.{and_assoc, and_comm}
use Rattle.opt_model.specs.Tables.{Tables}
use Rattle.opt_model.specs.Quantities.{over, over_months, list_if}
use Rattle.opt_model.specs.declared.quantity.Quantity.{Quantity}
use Rattle.opt_model.proofs.Sums.{over_from}
use Rattle.opt_network.specs.Numbering.{has_record, has_record_where, has_month}

abbrev pub bit : Bool → ℕ
bit b = cond b 1 0

pub count_by-append : {X : Type 0} (p : X → Bool) (xs ys : List X) → count_by p (xs ++ ys) ≡ count_by p xs + count_by p ys
count_by-append p xs ys = sum_by-append (λ x. cond (p x) 1 0) xs ys

-- one element, where a test holds
pub count_by-list_if : {X : Type 0} (p : X → Bool) (x : X) (b : Bool) → count_by p (list_if b (x ∷ [])) ≡ bit (b && p x)
count_by-list_if p x true = omega arith
count_by-list_if p x false = refl

module _ {A B : Type 0} (p : B → Bool) (f : ℕ → A → List B) where
  -- of records that add none there is none
  pub none-over : ((n : ℕ) (x : A) → count_by p (f n x) ≡ 0) → (k : ℕ) (xs : List A) → count_by p (over_from f k xs) ≡ 0
  none-over h k [] = refl
  none-over h k (x ∷ xs) = omega (arith, count_by-append p (f k x) (over_from f (k + 1) xs), h k x, none-over h (k + 1) xs)

  module _ (i : ℕ) (g : A → Bool) (h : (n : ℕ) (x : A) → count_by p (f n x) ≡ bit ((i == n) && g x)) where
    past-over : (k : ℕ) (xs : List A) → i < k → count_by p (over_from f k xs) ≡ 0
    past-over k [] lt = refl
    past-over k (x ∷ xs) lt =
        let here : count_by p (f k x) ≡ 0 = h k x ∙ ap (λ b. bit (b && g x)) (ne_eqb i k (λ same. omega arith)) in
        omega (arith, count_by-append p (f k x) (over_from f (k + 1) xs), here, past-over (k + 1) xs (omega arith))

    from-over : (k : ℕ) (xs : List A) (j : ℕ) → i ≡ k + j → count_by p (over_from f k xs) ≡ bit (has_record_where g xs j)
    from-over k [] j e = refl
    from-over k (x ∷ xs) zero e =
        let here : count_by p (f k x) ≡ bit (g x) = h k x ∙ ap (λ b. bit (b && g x)) (eq-eqb i k (omega arith)) in
        let split = count_by-append p (f k x) (over_from f (k + 1) xs) in
        let rest : count_by p (over_from f (k + 1) xs) ≡ 0 = past-over (k + 1) xs (omega arith) in
        omega (arith, split, here, rest)
    from-over k (x ∷ xs) (suc j) e =
        let here : count_by p (f k x) ≡ 0 = h k x ∙ ap (λ b. bit (b && g x)) (ne_eqb i k (λ same. omega arith)) in
        let split = count_by-append p (f k x) (over_from f (k + 1) xs) in
        let rest : count_by p (over_from f (k + 1) xs) ≡ bit (has_record_where g xs j) = from-over (k + 1) xs j (omega arith) in
        omega (arith, split, here, rest)

    -- where just one record adds it, if it passes a test, there is one of it if there is that record and it passes
    pub one-over : (xs : List A) → count_by p (over xs f) ≡ bit (has_record_where g xs i)
    one-over xs = from-over 0 xs i (omega arith)

module _ {B : Type 0} (p : B → Bool) (f : ℕ → List B) where
  none-from : ((k : ℕ) → count_by p (f k) ≡ 0) → (a n : ℕ) → count_by p (flat_map f (range_with_len a n)) ≡ 0
  none-from h a zero = refl
  none-from h a (suc n) = omega (arith, count_by-append p (f a) (flat_map f (range_with_len (a + 1) n)), h a, none-from h (a + 1) n)

  -- of months that add none there is none
  pub none-over_months : ((k : ℕ) → count_by p (f k) ≡ 0) → (t : Tables) → count_by p (over_months t f) ≡ 0
  none-over_months h t = none-from h 1 t.settings.months

  module _ (m : ℕ) (g : Bool) (h : (k : ℕ) → count_by p (f k) ≡ bit ((m == k) && g)) where
    past-months : (a n : ℕ) → m < a → count_by p (flat_map f (range_with_len a n)) ≡ 0
    past-months a zero lt = refl
    past-months a (suc n) lt =
        let here : count_by p (f a) ≡ 0 = h a ∙ ap (λ b. bit (b && g)) (ne_eqb m a (λ e. omega arith)) in
        omega (arith, count_by-append p (f a) (flat_map f (range_with_len (a + 1) n)), here, past-months (a + 1) n (omega arith))

    from-months : (a n : ℕ) → a ≤ m → count_by p (flat_map f (range_with_len a n)) ≡ bit (nat_lt m (a + n) && g)
    from-months a zero le = sym (ap (λ b. bit (b && g)) (le-ltb m (a + 0) (omega arith)))
    from-months a (suc n) le =
        let split = count_by-append p (f a) (flat_map f (range_with_len (a + 1) n)) in
        elim (cases_eq m a) [
          | inl e ↦
              let here : count_by p (f a) ≡ bit g = h a ∙ ap (λ b. bit (b && g)) (eq-eqb m a e) in
              let rest : count_by p (flat_map f (range_with_len (a + 1) n)) ≡ 0 = past-months (a + 1) n (omega arith) in
              let all : bit (nat_lt m (a + suc n) && g) ≡ bit g = ap (λ b. bit (b && g)) (lt-ltb m (a + suc n) (omega arith)) in
              omega (arith, split, here, rest, all)
          | inr e ↦
              let here : count_by p (f a) ≡ 0 = h a ∙ ap (λ b. bit (b && g)) (ne_eqb m a e) in
              let rest : count_by p (flat_map f (range_with_len (a + 1) n)) ≡ bit (nat_lt m (a + 1 + n) && g) = from-months (a + 1) n (omega arith) in
              let same : bit (nat_lt m (a + 1 + n) && g) ≡ bit (nat_lt m (a + suc n) && g) = ap (λ k. bit (nat_lt m k && g)) (omega arith) in
              omega (arith, split, here, rest, same)
        ]

    -- where just one month adds it, there is one of it if the plan has that month
    pub one-over_months : (t : Tables) → count_by p (over_months t f) ≡ bit (has_month t m && g)
    one-over_months t = elim (cases_lt m 1) [
      | inl lt ↦ past-months 1 t.settings.months lt ∙ sym (ap (λ b. bit ((b && nat_le m t.settings.months) && g)) (lt-leb 1 m lt))
      | inr le ↦
          from-months 1 t.settings.months le
          ∙ (ap (λ b. bit (b && g)) (last m t.settings.months)
          ∙ sym (ap (λ b. bit ((b && nat_le m t.settings.months) && g)) (le-leb 1 m le)))
    ]
      where
        last : (m n : ℕ) → nat_lt m (1 + n) ≡ nat_le m n
        last m n = elim (cases_lt n m) [
          | inl lt ↦ le-ltb m (1 + n) (omega arith) ∙ sym (lt-leb m n lt)
          | inr le ↦ lt-ltb m (1 + n) (omega arith) ∙ sym (le-leb m n le)
        ]

-- ---- tests that are put in another order
-- a test of a number may be one of the number that is asked for
at_number : (test : ℕ → Bool) (m k : ℕ) → (test k && (m == k)) ≡ ((m == k) && test m)
at_number test m k = elim (cases_Bool (m == k)) [
  | inl e ↦ rw (e, eqb-true m k e) (and_comm (test k) true)
  | inr e ↦ rw e (and_comm (test k) false)
]

-- a test beside one that says nothing of the record
has_record_where-and : {A : Type 0} (g : A → Bool) (l : Bool) (xs : List A) (i : ℕ) → has_record_where (λ x. g x && l) xs i ≡ (has_record_where g xs i && l)
has_record_where-and {A = A} g l xs i = by (slice_get xs i)
  where
    by : (found : Option A) → option_map_or (λ x. g x && l) found false ≡ (option_map_or g found false && l)
    by None = refl
    by (Some x) = refl

pub has_record_where-true : {A : Type 0} (xs : List A) (i : ℕ) → has_record_where (λ _. true) xs i ≡ has_record xs i
has_record_where-true xs i = elim ((slice_get_cases xs i).1) [
  | inl (x, lt, e, at) ↦ ap (λ o. option_map_or (λ _. true) o false) e ∙ sym (lt-ltb i (length xs) lt)
  | inr (le, e) ↦ ap (λ o. option_map_or (λ _. true) o false) e ∙ sym (le-ltb i (length xs) le)
]

has_record_where-all : {A : Type 0} (l : Bool) (xs : List A) (i : ℕ) → has_record_where (λ _. l) xs i ≡ (has_record xs i && l)
has_record_where-all l xs i = has_record_where-and (λ _. true) l xs i ∙ ap (λ b. b && l) (has_record_where-true xs i)

-- ---- the quantities of a kind
module _ (p : Quantity → Bool) (mk : ℕ → ℕ → ℕ → Quantity) (t : Tables) {A : Type 0} (test : ℕ → A → ℕ → Bool) where
  -- one for each record, commodity and month that passes a test
  abbrev pub all-three : List A → List Quantity
  all-three xs = over xs λ n x. over t.commodities λ c _. over_months t λ k. list_if (test n x k) (mk n c k ∷ [])

  pub none-three : ((n c k : ℕ) → p (mk n c k) ≡ false) → (xs : List A) → count_by p (all-three xs) ≡ 0
  none-three h xs =
      none-over p _ (λ n x. none-over p _ (λ c _. none-over_months p _ (λ k. count_by-list_if p (mk n c k) (test n x k) ∙ ap (λ b. bit (test n x k && b)) (h n c k) ∙ ap bit (and_comm (test n x k) false)) t) 0 t.commodities) 0 xs

  module _ (i j m : ℕ) (h : (n c k : ℕ) → p (mk n c k) ≡ ((i == n) && ((j == c) && (m == k)))) where
    in_month : (n : ℕ) (x : A) (c k : ℕ) → (test n x k && p (mk n c k)) ≡ ((m == k) && (test n x m && ((i == n) && (j == c))))
    in_month n x c k =
        rw (h n c k) (ap (λ b. test n x k && b) (sym (and_assoc (i == n) (j == c) (m == k)))
        ∙ (ap (λ b. test n x k && b) (and_comm ((i == n) && (j == c)) (m == k))
        ∙ (sym (and_assoc (test n x k) (m == k) ((i == n) && (j == c)))
        ∙ (ap (λ b. b && ((i == n) && (j == c))) (at_number (test n x) m k)
        ∙ and_assoc (m == k) (test n x m) ((i == n) && (j == c))))))

    of_commodity : (n : ℕ) (x : A) (c : ℕ) → count_by p (over_months t λ k. list_if (test n x k) (mk n c k ∷ [])) ≡ bit ((j == c) && (has_month t m && (test n x m && (i == n))))
    of_commodity n x c =
        one-over_months p _ m (test n x m && ((i == n) && (j == c))) (λ k. count_by-list_if p (mk n c k) (test n x k) ∙ ap bit (in_month n x c k)) t
        ∙ ap bit (ap (λ b. has_month t m && b) (sym (and_assoc (test n x m) (i == n) (j == c)))
        ∙ (sym (and_assoc (has_month t m) (test n x m && (i == n)) (j == c))
        ∙ and_comm (has_month t m && (test n x m && (i == n))) (j == c)))

    of_record : (n : ℕ) (x : A) → count_by p (over t.commodities λ c _. over_months t λ k. list_if (test n x k) (mk n c k ∷ []))
        ≡ bit ((i == n) && (test i x m && (has_record t.commodities j && has_month t m)))
    of_record n x =
        let l = has_month t m && (test n x m && (i == n)) in
        let has = has_record t.commodities j in
        let month = has_month t m in
        one-over p _ j (λ _. l) (λ c _. of_commodity n x c) t.commodities
        ∙ ap bit (has_record_where-all l t.commodities j
        ∙ (sym (and_assoc has month (test n x m && (i == n)))
        ∙ (and_comm (has && month) (test n x m && (i == n))
        ∙ (ap (λ b. b && (has && month)) (at_number (λ n. test n x m) i n)
        ∙ and_assoc (i == n) (test i x m) (has && month)))))

    pub one-three : (xs : List A) → count_by p (all-three xs) ≡ bit (has_record_where (λ x. test i x m) xs i && (has_record t.commodities j && has_month t m))
    one-three xs =
        one-over p _ i (λ x. test i x m && (has_record t.commodities j && has_month t m)) of_record xs
        ∙ ap bit (has_record_where-and (λ x. test i x m) (has_record t.commodities j && has_month t m) xs i)

module _ (p : Quantity → Bool) (mk : ℕ → ℕ → Quantity) (t : Tables) {A : Type 0} (test : A → ℕ → Bool) where
  -- one for each record and month that passes a test
  abbrev pub all-two : List A → List Quantity
  all-two xs = over xs λ n x. over_months t λ k. list_if (test x k) (mk n k ∷ [])

  pub none-two : ((n k : ℕ) → p (mk n k) ≡ false) → (xs : List A) → count_by p (all-two xs) ≡ 0
  none-two h xs =
      none-over p _ (λ n x. none-over_months p _ (λ k. count_by-list_if p (mk n k) (test x k) ∙ ap (λ b. bit (test x k && b)) (h n k) ∙ ap bit (and_comm (test x k) false)) t) 0 xs

  module _ (i m : ℕ) (h : (n k : ℕ) → p (mk n k) ≡ ((i == n) && (m == k))) where
    month_of : (n : ℕ) (x : A) (k : ℕ) → (test x k && p (mk n k)) ≡ ((m == k) && (test x m && (i == n)))
    month_of n x k =
        rw (h n k) (ap (λ b. test x k && b) (and_comm (i == n) (m == k))
        ∙ (sym (and_assoc (test x k) (m == k) (i == n))
        ∙ (ap (λ b. b && (i == n)) (at_number (test x) m k)
        ∙ and_assoc (m == k) (test x m) (i == n))))

    record_of : (n : ℕ) (x : A) → count_by p (over_months t λ k. list_if (test x k) (mk n k ∷ [])) ≡ bit ((i == n) && (test x m && has_month t m))
    record_of n x =
        let month = has_month t m in
        one-over_months p _ m (test x m && (i == n)) (λ k. count_by-list_if p (mk n k) (test x k) ∙ ap bit (month_of n x k)) t
        ∙ ap bit (and_comm month (test x m && (i == n))
        ∙ (ap (λ b. b && month) (and_comm (test x m) (i == n))
        ∙ and_assoc (i == n) (test x m) month))

    pub one-two : (xs : List A) → count_by p (all-two xs) ≡ bit (has_record_where (λ x. test x m) xs i && has_month t m)
    one-two xs =
        one-over p _ i (λ x. test x m && has_month t m) record_of xs
        ∙ ap bit (has_record_where-and (λ x. test x m) (has_month t m) xs i)
