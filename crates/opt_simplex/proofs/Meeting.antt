-- Values that meet the equations of the start, and those where one quantity is 1 and the others are 0.
use Rattle.std.proofs.Common.{◌≡◌, inl, inr, ℕ, zero, suc, ◌+◌, ◌-◌, ◌<◌, ◌≤◌, ◌==◌, if◌then◌else◌, true, false, not, List, [], ◌∷◌, ◌++◌, map, length, get_or, ℤ, pos, ◌+ℤ◌, unsigned_abs, Some, None, All, nat_lt, refl, ap, sym, ◌∙◌, arith}
use Rattle.std.specs.List.{enumerate_from}
use Rattle.std.proofs.lemmas.Int.{ints}
use Rattle.std.proofs.lemmas.Bool.{lt-ltb, le-ltb, eq-eqb, ne_eqb, cases_eq}
use Rattle.std.proofs.lemmas.List.{get_or-map, get_or-append-add, get_or_append_left}
use Rattle.std.proofs.lemmas.List.Elements.{All-nil, All-cons, All-filter}
use Rattle.std.proofs.Math.ListN.{length-map}
use Rattle.opt_sums.specs.Sums.{at}
use Rattle.opt_sums.specs.Entries.{coef, weighted_sum, AllBelow}
use Rattle.opt_sums.proofs.EntryLemmas.{weighted_sum-same, one_same, one_other}
use Rattle.opt_system.specs.declared.rows.RowKind.TheVariants.{Ge}
use Rattle.opt_system.specs.Ranges.{Range}
use Rattle.opt_system.specs.Systems.{System, row_at}
use Rattle.opt_frac.proofs.Steps.{unit, weighted_sum-unit}
use Rattle.opt_simplex.specs.Variables.{variables_of, low_of, high_of, row_high}
use Rattle.opt_simplex.specs.Tableau.{not_zeros}

-- the entries of the costs
abbrev pub cost_entries : System → List (ℕ × ℤ)
cost_entries p = not_zeros (enumerate_from 0 p.cost)

-- each row's sum is that of its terms, and the objective is the cost
pub record MeetsStart (p : System) (f : ℕ → ℤ) : Type 0 where
  pub rows : (i : ℕ) → i < length p.rows → f (length p.cost + i) ≡ weighted_sum (row_at p.rows i).terms f
  pub objective : f (length p.cost + length p.rows) ≡ weighted_sum (cost_entries p) f

-- ---- the ranges of the variables
pub low_of_quantity : (p : System) (box : Range) (j : ℕ) → length box.low ≡ length p.cost → j < length p.cost
    → low_of (variables_of p box) j ≡ at box.low j
low_of_quantity p box j e h = get_or_append_left box.low (map (λ row. row.right_hand_side) p.rows) (pos 0) j (omega arith)

pub high_of_quantity : (p : System) (box : Range) (j : ℕ) → length box.high ≡ length p.cost → j < length p.cost
    → high_of (variables_of p box) j ≡ Some (at box.high j)
high_of_quantity p box j e h =
    get_or_append_left (map Some box.high) (map (λ row. row_high row.kind row.right_hand_side) p.rows) None j (rw length-map (omega arith))
    ∙ get_or-map Some box.high j (pos 0) None (omega arith)

pub low_of_row : (p : System) (box : Range) (i : ℕ) → length box.low ≡ length p.cost → i < length p.rows
    → low_of (variables_of p box) (length p.cost + i) ≡ (row_at p.rows i).right_hand_side
low_of_row p box i e h =
    ap (λ n. get_or (box.low ++ map (λ row. row.right_hand_side) p.rows) (n + i) (pos 0)) (sym e)
    ∙ get_or-append-add box.low (map (λ row. row.right_hand_side) p.rows) i (pos 0)
    ∙ get_or-map (λ row. row.right_hand_side) p.rows i (record { kind = Ge; right_hand_side = pos 0; terms = [] }) (pos 0) h

pub high_of_row : (p : System) (box : Range) (i : ℕ) → length box.high ≡ length p.cost → i < length p.rows
    → high_of (variables_of p box) (length p.cost + i) ≡ row_high (row_at p.rows i).kind (row_at p.rows i).right_hand_side
high_of_row p box i e h =
    let there : length (map Some box.high) ≡ length p.cost = rw length-map e in
    ap (λ n. get_or (map Some box.high ++ map (λ row. row_high row.kind row.right_hand_side) p.rows) (n + i) None) (sym there)
    ∙ get_or-append-add (map Some box.high) (map (λ row. row_high row.kind row.right_hand_side) p.rows) i None
    ∙ get_or-map (λ row. row_high row.kind row.right_hand_side) p.rows i (record { kind = Ge; right_hand_side = pos 0; terms = [] }) None h

-- ---- the costs as entries
pub coef-not_zeros : (es : List (ℕ × ℤ)) (k : ℕ) → coef (not_zeros es) k ≡ coef es k
coef-not_zeros [] k = refl
coef-not_zeros (e ∷ es) k =
    elim (cases_eq (unsigned_abs e.1) 0) [
      | inl z ↦
          let none : e.1 ≡ pos 0 = omega (arith, ints, z) in
          rw (eq-eqb (unsigned_abs e.1) 0 z) (coef-not_zeros es k ∙ omega (arith, ints, without e.0 e.1 k none))
      | inr z ↦ rw (ne_eqb (unsigned_abs e.1) 0 z) (ap (λ n. (if e.0 == k then e.1 else pos 0) +ℤ n) (coef-not_zeros es k))
    ]
  where
    without : (i : ℕ) (c : ℤ) (k : ℕ) → c ≡ pos 0 → (if i == k then c else pos 0) ≡ pos 0
    without i c k h = elim (cases_eq i k) [ inl e ↦ one_same i k c e ∙ h | inr e ↦ one_other i k c e ]

-- the coefficient of a number before the first
coef-enumerate_before : (s : ℕ) (xs : List ℤ) (k : ℕ) → k < s → coef (enumerate_from s xs) k ≡ pos 0
coef-enumerate_before s [] k h = refl
coef-enumerate_before s (x ∷ xs) k h = omega (arith, ints, one_other s k x (omega arith), coef-enumerate_before (s + 1) xs k (omega arith))

coef-enumerate_from : (s : ℕ) (xs : List ℤ) (j : ℕ) → coef (enumerate_from s xs) (s + j) ≡ at xs j
coef-enumerate_from s [] j = refl
coef-enumerate_from s (x ∷ xs) zero =
    let here : s ≡ s + zero = omega arith in
    omega (arith, ints, one_same s (s + zero) x here, coef-enumerate_before (s + 1) xs (s + zero) (omega arith))
coef-enumerate_from s (x ∷ xs) (suc j) =
    let shift : s + suc j ≡ (s + 1) + j = omega arith in
    omega (arith, ints, one_other s (s + suc j) x (omega arith), ap (coef (enumerate_from (s + 1) xs)) shift, coef-enumerate_from (s + 1) xs j)

pub coef-cost_entries : (p : System) (j : ℕ) → coef (cost_entries p) j ≡ at p.cost j
coef-cost_entries p j =
    let from_zero : j ≡ 0 + j = omega arith in
    coef-not_zeros (enumerate_from 0 p.cost) j ∙ ap (coef (enumerate_from 0 p.cost)) from_zero ∙ coef-enumerate_from 0 p.cost j

-- ---- one unit of quantity j
abbrev pub column : System → ℕ → ℕ → ℤ
column p j k =
    if nat_lt k (length p.cost)
    then unit j k
    else if nat_lt k (length p.cost + length p.rows)
    then coef (row_at p.rows (k - length p.cost)).terms j
    else at p.cost j

pub column_quantity : (p : System) (j k : ℕ) → k < length p.cost → column p j k ≡ unit j k
column_quantity p j k h = rw (lt-ltb k (length p.cost) h) refl

pub column_row : (p : System) (j i : ℕ) → i < length p.rows → column p j (length p.cost + i) ≡ coef (row_at p.rows i).terms j
column_row p j i h =
    let past : nat_lt (length p.cost + i) (length p.cost) ≡ false = le-ltb (length p.cost + i) (length p.cost) (omega arith) in
    let inside : nat_lt (length p.cost + i) (length p.cost + length p.rows) ≡ true =
    lt-ltb (length p.cost + i) (length p.cost + length p.rows) (omega arith) in
    let number : (length p.cost + i) - length p.cost ≡ i = omega arith in
    rw (past, inside) (ap (λ n. coef (row_at p.rows n).terms j) number)

pub column_objective : (p : System) (j : ℕ) → column p j (length p.cost + length p.rows) ≡ at p.cost j
column_objective p j =
    let past : nat_lt (length p.cost + length p.rows) (length p.cost) ≡ false =
    le-ltb (length p.cost + length p.rows) (length p.cost) (omega arith) in
    let end : nat_lt (length p.cost + length p.rows) (length p.cost + length p.rows) ≡ false =
    le-ltb (length p.cost + length p.rows) (length p.cost + length p.rows) (omega arith) in
    rw (past, end) refl

-- over entries of quantities alone
weighted_sum-column : (p : System) (j : ℕ) (es : List (ℕ × ℤ)) → AllBelow (length p.cost) es → weighted_sum es (column p j) ≡ coef es j
weighted_sum-column p j es h =
    weighted_sum-same es (column p j) (unit j) (λ k d l. column_quantity p j (get_or es k d).0 (h k d l)) ∙ weighted_sum-unit es j

-- the costs name quantities
AllBelow-enumerate : (s n : ℕ) (xs : List ℤ) → s + length xs ≤ n → AllBelow n (enumerate_from s xs)
AllBelow-enumerate s n [] h = All-nil (λ e. e.0 < n)
AllBelow-enumerate s n (x ∷ xs) h =
    All-cons (λ e. e.0 < n) (s, x) (enumerate_from (s + 1) xs) (omega arith) (AllBelow-enumerate (s + 1) n xs (omega arith))

pub AllBelow-cost_entries : (p : System) → AllBelow (length p.cost) (cost_entries p)
AllBelow-cost_entries p =
    All-filter (λ e. not (unsigned_abs e.1 == 0)) (λ e. e.0 < length p.cost) (enumerate_from 0 p.cost)
    (AllBelow-enumerate 0 (length p.cost) p.cost (omega arith))

pub MeetsStart-column : (p : System) (j : ℕ) → All (λ row. AllBelow (length p.cost) row.terms) p.rows → MeetsStart p (column p j)
MeetsStart-column p j h =
    record {
      rows =
          λ i k. column_row p j i k
          ∙ sym (weighted_sum-column p j (row_at p.rows i).terms (h i (record { kind = Ge; right_hand_side = pos 0; terms = [] }) k));
      objective = column_objective p j ∙ sym (coef-cost_entries p j) ∙ sym (weighted_sum-column p j (cost_entries p) (AllBelow-cost_entries p));
    }
