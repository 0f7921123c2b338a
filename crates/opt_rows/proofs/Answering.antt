-- The answer of building a system, from those of its parts.
use Rattle.std.proofs.Common.{◌≡◌, ◌≤◌, Bool, true, false, List, length, map, Option, ℤ, Result, Ok, Err, ap, sym, ◌∙◌, subst, arith}
use Rattle.std.specs.Prelude.{IfOk, if◌then◌else◌, nat_lt}
use Rattle.std.proofs.lemmas.List.{length-map}
use Rattle.opt_base.specs.Answers.{Gives, Fails}
use Rattle.opt_base.specs.declared.limits.TheConstants.{QUANTITY_LIMIT, ROW_LIMIT, TERM_LIMIT, ROWS_COLUMN, TERMS_COLUMN}
use Rattle.opt_base.specs.declared.refusal.Refusal.{Refusal}
use Rattle.opt_base.specs.declared.refusal.ModelFault.{ModelFault}
use Rattle.opt_base.specs.declared.refusal.ModelFault.TheVariants.{Refused, OutOfMemory}
use Rattle.opt_base.specs.Refusals.{too_many}
use Rattle.opt_model.specs.Tables.{Tables}
use Rattle.opt_model.specs.Quantities.{quantities, low, high}
use Rattle.opt_model.specs.declared.records.Goal.{Goal}
use Rattle.opt_network.specs.Numbering.{Numbering, IsLayoutOf}
use Rattle.opt_system.specs.Ranges.{Range}
use Rattle.opt_system.specs.Systems.{System, IsSmall, AreSmallCosts, problem_of, term_count}
use Rattle.opt_rows.specs.Systems.{SystemRow, system_rows, root_of, costs_of, system_of, model_system, rows_or_too_many, AreSmallRows}
use Rattle.opt_rows.specs.Laws.{SpeaksFor}
use Rattle.opt_rows.proofs.Distinct.{system_speaks}

-- a value that stands past two refusals
abbrev past_two : {A : Type 0} → Bool → Bool → Refusal → Refusal → A → Result A Refusal
past_two b c e f x = if b then Err e else if c then Err f else Ok x

-- a value that stands past one refusal
abbrev past_one : {A : Type 0} → Bool → Refusal → A → Result A Refusal
past_one b e x = if b then Err e else Ok x

refused_alike : {A B : Type 0} (b c : Bool) (e f r : Refusal) (x : A) (y : B) → past_one b e x ≡ Err r → past_two b c e f y ≡ Err r
refused_alike true c e f r x y h = let same : e ≡ r = cc in ap Err same
refused_alike false c e f r x y h = cc

stands_is : {A : Type 0} (b : Bool) (e : Refusal) (x y : A) → past_one b e x ≡ Ok y → y ≡ x
stands_is true e x y h = cc
stands_is false e x y h = cc

value_is : {A : Type 0} (b c : Bool) (e f : Refusal) (x y : A) → past_two b c e f x ≡ Ok y → y ≡ x
value_is true c e f x y h = cc
value_is false true e f x y h = cc
value_is false false e f x y h = cc

-- too many rows for the system
pub fails_rows : (t : Tables) (goal : Goal) (cap : Option ℤ) (fault : ModelFault) → Fails fault (rows_or_too_many t cap) → Fails fault (model_system t goal cap)
fails_rows t goal cap OutOfMemory h = tt
fails_rows t goal cap (Refused r) h =
    refused_alike (nat_lt ROW_LIMIT (length (system_rows t cap))) (nat_lt TERM_LIMIT (term_count (system_rows t cap)))
    (too_many ROWS_COLUMN (length (system_rows t cap))) (too_many TERMS_COLUMN (term_count (system_rows t cap))) r (system_rows t cap) (system_of t goal cap) h

-- the rows that were made
pub rows_are : (t : Tables) (cap : Option ℤ) (rows : List SystemRow) → rows_or_too_many t cap ≡ Ok rows → rows ≡ system_rows t cap
rows_are t cap rows h =
    stands_is (nat_lt ROW_LIMIT (length (system_rows t cap))) (too_many ROWS_COLUMN (length (system_rows t cap))) (system_rows t cap) rows h

-- the system that was made speaks for the model
pub speaks : (t : Tables) (goal : Goal) (cap : Option ℤ) (r : Result System ModelFault) → Gives (λ s. s) r (model_system t goal cap) → IfOk r (SpeaksFor t goal cap)
speaks t goal cap (Ok s) h =
    let is : s ≡ system_of t goal cap =
    value_is (nat_lt ROW_LIMIT (length (system_rows t cap))) (nat_lt TERM_LIMIT (term_count (system_rows t cap)))
    (too_many ROWS_COLUMN (length (system_rows t cap))) (too_many TERMS_COLUMN (term_count (system_rows t cap))) (system_of t goal cap) s h in
    subst (SpeaksFor t goal cap) (sym is) (system_speaks t goal cap)
speaks t goal cap (Err fault) h = tt

module _ (t : Tables) (layout : Numbering) (same : IsLayoutOf t layout) where
  lows_are : layout.lows ≡ map (low t) (quantities t)
  lows_are = ap (λ (l : Numbering). l.lows) same.same

  highs_are : layout.highs ≡ map (high t) (quantities t)
  highs_are = ap (λ (l : Numbering). l.highs) same.same

  root_is : (root : Range) → root ≡ record { low = layout.lows; high = layout.highs } → root ≡ root_of t
  root_is root e =
      let of : List ℤ → List ℤ → Range = λ l h. record { low = l; high = h } in
      e ∙ (ap (λ l. of l layout.highs) lows_are ∙ ap (of (map (low t) (quantities t))) highs_are)

  -- the parts are small enough for a system
  pub parts_small : (goal : Goal) (rows : List SystemRow) (root : Range) (costs : List ℤ) → root ≡ record { low = layout.lows; high = layout.highs } → costs ≡ costs_of t goal
      → AreSmallRows layout.highs rows → AreSmallCosts costs layout.highs → IsSmall rows root costs
  parts_small goal rows root costs e f small small_costs =
      let highs : root.high ≡ layout.highs = ap (λ (r : Range). r.high) e in
      let lows : root.low ≡ layout.lows = ap (λ (r : Range). r.low) e in
      let few : length (quantities t) ≤ QUANTITY_LIMIT = same.few in
      let all_rows : AreSmallRows root.high rows = subst (λ (h : List ℤ). AreSmallRows h rows) (sym highs) small in
      record {
        cost_each =
            ap length f ∙ (length-map (quantities t) _ ∙ sym (ap length (lows ∙ lows_are) ∙ length-map (quantities t) (low t)));
        few_quantities = omega (arith, few, ap length (highs ∙ highs_are), length-map (quantities t) (high t));
        costs = subst (AreSmallCosts costs) (sym highs) small_costs;
        terms = all_rows.terms;
        rights = all_rows.rights;
      }

  -- the system of the parts is that of the model
  pub system_given : (goal : Goal) (cap : Option ℤ) (rows : List SystemRow) (root : Range) (costs : List ℤ) (r : Result System ModelFault)
      → rows_or_too_many t cap ≡ Ok rows → root ≡ record { low = layout.lows; high = layout.highs } → costs ≡ costs_of t goal
      → Gives (λ s. s) r (problem_of rows root costs) → Gives (λ s. s) r (model_system t goal cap)
  system_given goal cap rows root costs r e f g h =
      subst (λ (cs : List ℤ). Gives (λ s. s) r (problem_of (system_rows t cap) (root_of t) cs)) g
      (subst (λ (box : Range). Gives (λ s. s) r (problem_of (system_rows t cap) box costs)) (root_is root f)
      (subst (λ (rs : List SystemRow). Gives (λ s. s) r (problem_of rs root costs)) (rows_are t cap rows e) h))
