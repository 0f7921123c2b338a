-- The counts of a model and their limits: those of its layout and its system, and its limit of nodes.
use Rattle.std.proofs.Common.{◌≡◌, ℕ, ◌+◌, ◌/◌, ◌^◌, ◌≤◌, max, Bool, true, false, List, [], ◌∷◌, length, map, sum_by, None, Result, Ok, Err, refl, ap, sym, ◌∙◌, arith}
use Rattle.std.specs.Prelude.{nat_lt, if◌then◌else◌}
use Rattle.std.proofs.lemmas.List.{append-nil, length-map}
use Rattle.std.proofs.lemmas.List.Sums.{sum_by-cons}
use Rattle.std.proofs.lemmas.Nat.{le-div}
use Rattle.opt_base.specs.Answers.{Fails}
use Rattle.opt_base.specs.declared.limits.TheConstants.{QUANTITY_LIMIT, ROW_LIMIT, TERM_LIMIT, QUANTITIES_COLUMN, ROWS_COLUMN, TERMS_COLUMN}
use Rattle.opt_base.specs.declared.refusal.Refusal.{Refusal}
use Rattle.opt_base.specs.declared.refusal.ModelFault.{ModelFault}
use Rattle.opt_base.specs.declared.refusal.ModelFault.TheVariants.{Refused, OutOfMemory}
use Rattle.opt_base.specs.Refusals.{too_many}
use Rattle.opt_model.specs.Tables.{Tables}
use Rattle.opt_model.specs.Quantities.{quantities}
use Rattle.opt_model.specs.Rows.{Row, rows, coefficients_by_number}
use Rattle.opt_model.specs.Limits.{term_count, within_limits}
use Rattle.opt_model.specs.Verdicts.{node_limit}
use Rattle.opt_model.specs.declared.quantity.Quantity.{Quantity}
use Rattle.opt_network.specs.Numbering.{Numbering, numbering_of, limited_numbering}
use Rattle.opt_read.specs.Setup.{IsSetup}
use Rattle.opt_system.specs.Systems.{System}
use Rattle.opt_system.specs.Systems as system
use Rattle.opt_rows.specs.Systems.{SystemRow, row_over, system_rows, model_system}
use Rattle.opt_tree.specs.declared.limits.TheConstants.{NODE_LIMIT}
use Rattle.opt_plan.specs.Models.{own_system}

-- ---- one count, then two
-- a value, unless a count is past its limit
abbrev unless : {A : Type 0} → Bool → Refusal → Result A Refusal → Result A Refusal
unless past refusal rest = if past then Err refusal else rest

first_alike : {A B : Type 0} (past : Bool) (e r : Refusal) (x : A) (rest : Result B Refusal) → unless past e (Ok x) ≡ Err r → unless past e rest ≡ Err r
first_alike true e r x rest h = let same : e ≡ r = cc in ap Err same
first_alike false e r x rest h = cc

not_past : {A : Type 0} (past : Bool) (e : Refusal) (x y : A) → unless past e (Ok x) ≡ Ok y → past ≡ false
not_past true e x y h = cc
not_past false e x y h = refl

-- a value, unless there are too many rows or terms
abbrev counted : {A : Type 0} → ℕ → ℕ → A → Result A Refusal
counted many terms x =
    unless (nat_lt ROW_LIMIT many) (too_many ROWS_COLUMN many) (unless (nat_lt TERM_LIMIT terms) (too_many TERMS_COLUMN terms) (Ok x))

two_alike : {A B : Type 0} (b c : Bool) (e f r : Refusal) (x : A) (y : B) → unless b e (unless c f (Ok x)) ≡ Err r → unless b e (unless c f (Ok y)) ≡ Err r
two_alike true c e f r x y h = let same : e ≡ r = cc in ap Err same
two_alike false true e f r x y h = let same : f ≡ r = cc in ap Err same
two_alike false false e f r x y h = cc

two_passed : {A B : Type 0} (b c : Bool) (e f : Refusal) (x z : A) (y : B) → unless b e (unless c f (Ok x)) ≡ Ok z → (z ≡ x) × (unless b e (unless c f (Ok y)) ≡ Ok y)
two_passed true c e f x z y h = cc
two_passed false true e f x z y h = cc
two_passed false false e f x z y h = (cc, refl)

-- ---- the counts of a system are those of the model
pub rows_counted : (t : Tables) → length (system_rows t None) ≡ length (rows t)
rows_counted t =
    ap length (append-nil (map (row_over (quantities t)) (rows t))) ∙ length-map (rows t) (row_over (quantities t))

terms_over : (qs : List Quantity) (rs : List Row) → system.term_count (map (row_over qs) rs) ≡ sum_by (λ r. length (coefficients_by_number qs r.left)) rs
terms_over qs [] = refl
terms_over qs (r ∷ rs) =
    let width : SystemRow → ℕ = λ row. length row.terms in
    let width_of : Row → ℕ = λ (p : Row). length (coefficients_by_number qs p.left) in
    sum_by-cons width (row_over qs r) (map (row_over qs) rs)
    ∙ (ap (λ n. width_of r + n) (terms_over qs rs) ∙ sym (sum_by-cons width_of r rs))

terms_counted : (t : Tables) → system.term_count (system_rows t None) ≡ term_count t
terms_counted t =
    ap system.term_count (append-nil (map (row_over (quantities t)) (rows t))) ∙ terms_over (quantities t) (rows t)

counted_alike : {A : Type 0} (t : Tables) (x : A) → counted (length (system_rows t None)) (system.term_count (system_rows t None)) x ≡ counted (length (rows t)) (term_count t) x
counted_alike t x =
    ap (λ n. counted n (system.term_count (system_rows t None)) x) (rows_counted t) ∙ ap (λ n. counted (length (rows t)) n x) (terms_counted t)

-- with few rows, each may have an entry in the multipliers of some node
share_of : (rows : ℕ) → rows ≤ 20000 → 1 ≤ 2 ^ 24 / max rows 1
share_of rows few = le-div 1 (2 ^ 24) (max rows 1) (omega arith) (omega arith)

module _ (t : Tables) where
  abbrev many : Bool
  many = nat_lt QUANTITY_LIMIT (length (quantities t))

  abbrev refusal : Refusal
  refusal = too_many QUANTITIES_COLUMN (length (quantities t))

  -- the layout is refused
  pub fails_quantities : (fault : ModelFault) → Fails fault (limited_numbering t) → Fails fault (within_limits t)
  fails_quantities OutOfMemory h = tt
  fails_quantities (Refused r) h = first_alike many refusal r (numbering_of t) (counted (length (rows t)) (term_count t) t) h

  -- with few quantities, only rows and terms are left to be counted
  rest_counts : (numbering : Numbering) → limited_numbering t ≡ Ok numbering → within_limits t ≡ counted (length (rows t)) (term_count t) t
  rest_counts numbering h =
      ap (λ b. unless b refusal (counted (length (rows t)) (term_count t) t)) (not_past many refusal (numbering_of t) numbering h)

  -- the system is refused
  pub fails_rows : (numbering : Numbering) (fault : ModelFault) → limited_numbering t ≡ Ok numbering → Fails fault (model_system t t.settings.goal None) → Fails fault (within_limits t)
  fails_rows numbering OutOfMemory few h = tt
  fails_rows numbering (Refused r) few h =
      rest_counts numbering few
      ∙ two_alike (nat_lt ROW_LIMIT (length (rows t))) (nat_lt TERM_LIMIT (term_count t)) (too_many ROWS_COLUMN (length (rows t))) (too_many TERMS_COLUMN (term_count t)) r (own_system t) t
      (sym (counted_alike t (own_system t)) ∙ h)

  passed : (s : System) → model_system t t.settings.goal None ≡ Ok s → (s ≡ own_system t) × (counted (length (rows t)) (term_count t) t ≡ Ok t)
  passed s h =
      two_passed (nat_lt ROW_LIMIT (length (rows t))) (nat_lt TERM_LIMIT (term_count t)) (too_many ROWS_COLUMN (length (rows t))) (too_many TERMS_COLUMN (term_count t)) (own_system t) s t
      (sym (counted_alike t (own_system t)) ∙ h)

  -- the system that was made is the model's own
  pub own_system_is : (s : System) → model_system t t.settings.goal None ≡ Ok s → s ≡ own_system t
  own_system_is s h = (passed s h).0

  -- layout and system were made
  pub is_within : (numbering : Numbering) (s : System) → limited_numbering t ≡ Ok numbering → model_system t t.settings.goal None ≡ Ok s → within_limits t ≡ Ok t
  is_within numbering s few h = rest_counts numbering few ∙ (passed s h).1

  -- ---- the limit of nodes
  -- so many rows has the model's own system
  pub own_rows : (s : System) → s ≡ own_system t → length s.rows ≡ length (rows t)
  own_rows s is = ap (λ (p : System). length p.rows) is ∙ rows_counted t

  pub some_node : (s : System) → s ≡ own_system t → system.IsLimited s → IsSetup t.settings → 1 ≤ node_limit t
  some_node s is limited setup =
      let few : length (rows t) ≤ 20000 = omega (arith, own_rows s is, limited.few_rows) in
      omega (arith, setup.nodes.0, share_of (length (rows t)) few)

  pub few_nodes : IsSetup t.settings → node_limit t ≤ NODE_LIMIT
  few_nodes setup = omega (arith, setup.nodes.1)
