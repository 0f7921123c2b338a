-- The rows that a point breaks are those that its plan breaks.
use Rattle.std.proofs.Common.{◌≡◌, ℕ, ◌+◌, ◌*◌, ◌^◌, ◌<◌, ◌≤◌, Bool, true, false, not, List, [], ◌∷◌, ◌++◌, length, map, take, get_or, None, ℤ, pos, unsigned_abs, All, subst, refl, sym, ap, ◌∙◌, arith, append-nil, take_all}
use Rattle.std.specs.List.{flat_map, enumerate_from}
use Rattle.std.proofs.lemmas.List.{get_or_default, length-map}
use Rattle.std.proofs.lemmas.List.Elements.{All-cons, All-nil}
use mathlib.Core.Path.{fun_ext}
use Rattle.opt_model.specs.Plans.{Plan, plan_of, sum_of}
use Rattle.opt_model.specs.Quantities.{quantities, over, list_if}
use Rattle.opt_model.specs.Rows.{Relation, at_least, equal, Row, rows}
use Rattle.opt_model.specs.Tables.{Tables}
use Rattle.opt_model.specs.declared.records.Goal.{Goal}
use Rattle.opt_model.proofs.Sums.{All-over}
use Rattle.opt_network.proofs.RecordLists.{over-more}
use Rattle.opt_rows.specs.Systems.{row_over, kind_of, system_of}
use Rattle.opt_rows.proofs.Distinct.{quantities_distinct}
use Rattle.opt_rows.proofs.Numbering.{sum_is_dot}
use Rattle.opt_sums.specs.Entries.{dot}
use Rattle.opt_system.specs.Broken as system
use Rattle.opt_system.specs.Broken.{meets_row}
use Rattle.opt_system.specs.Ranges.{IsWithin}
use Rattle.opt_system.specs.Rows.{Holds}
use Rattle.opt_system.specs.Systems.{System, IsLimited, row_at}
use Rattle.opt_system.specs.declared.rows.Row as system_row
use Rattle.opt_system.proofs.BrokenLemmas.{meets_row-Decides}
use Rattle.opt_system.proofs.LimitLemmas.{terms_small, few_terms_of}
use Rattle.opt_system.proofs.Sizes.{size_dot-take}
use Rattle.opt_report.specs.Broken.{distance, stands, breach_of, breaches_of, breach_at, broken_by}

-- what each record of another kind adds, seen as a record
over_seen : {A B C : Type 0} (f : ℕ → B → List C) (view : A → B) (k : ℕ) (xs : List A)
    → flat_map (λ r. f r.0 r.1) (enumerate_from k (map view xs)) ≡ flat_map (λ r. f r.0 (view r.1)) (enumerate_from k xs)
over_seen f view k [] = refl
over_seen f view k (x ∷ xs) = ap (λ ys. f k (view x) ++ ys) (over_seen f view (k + 1) xs)

stands_same : (relation : Relation) (left right : ℤ) → system.stands (kind_of relation) left right ≡ stands relation left right
stands_same at_least left right = refl
stands_same equal left right = refl

module _ (t : Tables) (x : List ℤ) where
  abbrev plan : Plan
  plan = plan_of (quantities t) x

  -- a row over the numbers of the quantities is broken as the row itself is
  breach_same : (number : ℕ) (r : Row) → breach_at x number (row_over (quantities t) r) ≡ breach_of plan number r
  breach_same number r =
      let sum : dot (row_over (quantities t) r).terms x ≡ sum_of r.left plan = sum_is_dot (quantities t) x r.left (quantities_distinct t) in
      ap (λ left. list_if (not (system.stands (kind_of r.relation) left r.right)) ((number, distance left r.right) ∷ [])) sum
      ∙ ap (λ b. list_if (not b) ((number, distance (sum_of r.left plan) r.right) ∷ [])) (stands_same r.relation (sum_of r.left plan) r.right)

  pub breaches_same : (goal : Goal) (p : System) → p ≡ system_of t goal None → broken_by p x ≡ breaches_of t plan
  breaches_same goal p is =
      ap (λ (s : System). broken_by s x) is
      ∙ (ap (λ rs. over rs (breach_at x)) (append-nil (map (row_over (quantities t)) (rows t)))
      ∙ (over_seen (breach_at x) (row_over (quantities t)) 0 (rows t)
      ∙ ap (over (rows t)) (fun_ext (λ number. fun_ext (breach_same number)))))

-- the rows so far that are broken, and one more
pub breaches_more : (p : System) (x : List ℤ) (old new : List (ℕ × ℤ)) (i : ℕ) → i < length p.rows → old ≡ over (take i p.rows) (breach_at x)
    → new ≡ old ++ breach_at x i (row_at p.rows i) → new ≡ over (take (i + 1) p.rows) (breach_at x)
breaches_more p x old new i within so_far more =
    more ∙ (ap (λ xs. xs ++ breach_at x i (row_at p.rows i)) so_far ∙ sym (over-more (breach_at x) p.rows i (row_at [] 0) within))

-- all rows
pub breaches_all : (p : System) (x : List ℤ) (old : List (ℕ × ℤ)) (i : ℕ) → length p.rows ≤ i → old ≡ over (take i p.rows) (breach_at x) → old ≡ broken_by p x
breaches_all p x old i past so_far = so_far ∙ ap (λ rs. over rs (breach_at x)) (take_all i p.rows past)

-- the sum of a row at a point is far from the limits of 128 bits
pub sum_small : (p : System) (x : List ℤ) (i : ℕ) → IsLimited p → IsWithin p.root x → i < length p.rows
    → unsigned_abs (dot (row_at p.rows i).terms x) ≤ 2 ^ 51 * 20000
sum_small p x i limited within h =
    let terms : List (ℕ × ℤ) = (row_at p.rows i).terms in
    let few : length terms ≤ 20000 = few_terms_of p.rows p.root p.cost limited.small limited.even i (row_at [] 0) h in
    let whole : take (length terms) terms ≡ terms = take_all (length terms) terms (omega arith) in
    rw (← whole) (size_dot-take terms x (length terms) (terms_small p x i limited within h) few)

not_met : (b : Bool) → (b ≡ true → ⊥) → b ≡ false
not_met true h = absurd (h refl)
not_met false h = refl

-- nothing of a row that the point meets
pub met_row : (x : List ℤ) (i : ℕ) (row : system_row.Row) → Holds row x → breach_at x i row ≡ []
met_row x i row h = ap (λ b. list_if (not b) ((i, distance (dot row.terms x) row.right_hand_side) ∷ [])) ((meets_row-Decides row x).1 h)

-- a row that the point does not meet, with its distance
pub broken_row : (x : List ℤ) (i : ℕ) (row : system_row.Row) → (Holds row x → ⊥) → breach_at x i row ≡ (i, distance (dot row.terms x) row.right_hand_side) ∷ []
broken_row x i row h =
    ap (λ b. list_if (not b) ((i, distance (dot row.terms x) row.right_hand_side) ∷ [])) (not_met (meets_row row x) (λ e. h ((meets_row-Decides row x).0 e)))

-- the numbers of broken rows are those of rows
numbered_at : (n : ℕ) (x : List ℤ) (number : ℕ) (row : system_row.Row) → number < n → All (λ (breach : ℕ × ℤ). breach.0 < n) (breach_at x number row)
numbered_at n x number row h = by (not (meets_row row x))
  where
    by : (b : Bool) → All (λ (breach : ℕ × ℤ). breach.0 < n) (list_if b ((number, distance (dot row.terms x) row.right_hand_side) ∷ []))
    by true = All-cons (λ (breach : ℕ × ℤ). breach.0 < n) (number, distance (dot row.terms x) row.right_hand_side) [] h (All-nil (λ (breach : ℕ × ℤ). breach.0 < n))
    by false = All-nil (λ (breach : ℕ × ℤ). breach.0 < n)

breaches_numbered : (p : System) (x : List ℤ) → All (λ (breach : ℕ × ℤ). breach.0 < length p.rows) (broken_by p x)
breaches_numbered p x = All-over (breach_at x) (λ (breach : ℕ × ℤ). breach.0 < length p.rows) 0 p.rows (λ i d m. numbered_at (length p.rows) x (0 + i) (get_or p.rows i d) (omega arith))

-- the system of a model has a row for each of the model's
as_many_rows : (t : Tables) (goal : Goal) (p : System) → p ≡ system_of t goal None → length p.rows ≡ length (rows t)
as_many_rows t goal p is =
    ap (λ (s : System). length s.rows) is ∙ (ap length (append-nil (map (row_over (quantities t)) (rows t))) ∙ length-map (rows t) (row_over (quantities t)))

pub numbers_of_rows : (t : Tables) (goal : Goal) (p : System) (x : List ℤ) (broken : List (ℕ × ℤ)) → broken ≡ broken_by p x → p ≡ system_of t goal None
    → All (λ (breach : ℕ × ℤ). breach.0 < length (rows t)) broken
numbers_of_rows t goal p x broken same is =
    subst (λ (n : ℕ). All (λ (breach : ℕ × ℤ). breach.0 < n) broken) (as_many_rows t goal p is)
    (subst (λ (bs : List (ℕ × ℤ)). All (λ (breach : ℕ × ℤ). breach.0 < length p.rows) bs) (sym same) (breaches_numbered p x))
