-- What is read as settings keeps the ranges of the settings.
use Rattle.std.proofs.Common.{◌≡◌, ◌≤◌, ◌==◌, ℕ, zero, suc, ℤ, pos, Bool, true, false, List, [], ◌∷◌, map, length, Option, Some, None, option_map, Ok, refl, ap, ◌∙◌, arith}
use Rattle.std.specs.Prelude.{All, IfSome, option_and_then, if◌then◌else◌}
use Rattle.std.proofs.lemmas.Bool.{eqb-true}
use Rattle.std.proofs.lemmas.List.{length-map}
use Rattle.std.proofs.lemmas.Bool.Decides.{nat_tests}
use Rattle.std.proofs.lemmas.Int.{ints}
use Rattle.toml.specs.Data.{Data, Members, as_array, as_integer, get_member}
use Rattle.opt_base.specs.declared.refusal.File.TheVariants.{Settings as SettingsFile}
use Rattle.opt_model.specs.Settings.{Settings}
use Rattle.opt_read.specs.declared.key.Key.{Key}
use Rattle.opt_read.specs.declared.key.Key.TheVariants as key
use Rattle.opt_model.specs.declared.limits.TheConstants.{LAST_FORMAT}
use Rattle.opt_model.specs.declared.limits.TheConstants.{MONTH_LIMIT}
use Rattle.opt_read.specs.declared.limits.TheConstants.{AMOUNT_LIMIT, DAY_LIMIT, NODE_SETTING_LIMIT}
use Rattle.opt_read.specs.Keys.{key_name}
use Rattle.opt_read.specs.Reading.{text_of}
use Rattle.opt_read.specs.Settings.{all_there, amount_setting, amount_value, amount_or_none, number_between, budget_setting, day_list, days_setting, day_array, document_of, goal_setting, or_out_of_range, items, natural_of, number_setting, integer_between, settings_of, setup_of, required_value}
use Rattle.opt_read.proofs.ReadLemmas.{went_on}
use Rattle.opt_read.specs.Setup.{IsAmount, IsSetup}

was_in_range : {A : Type 0} (at : Key) (o : Option A) (x : A) → or_out_of_range at o ≡ Ok x → o ≡ Some x
was_in_range at None x e = cc
was_in_range at (Some y) x e = let same : y ≡ x = cc in ap Some same

went_then : {A B : Type 0} (f : A → Option B) (o : Option A) (y : B) → option_and_then f o ≡ Some y → (x : A) × (o ≡ Some x) × (f x ≡ Some y)
went_then f None y e = cc
went_then f (Some x) y e = (x, refl, e)

-- the bounds of a number
number_between-is : (low high m n : ℕ) → number_between low high m ≡ Some n → (low ≤ n) × (n ≤ high)
number_between-is low high m n e = grind (arith, nat_tests)

integer_between-is : (low high n : ℕ) (value : Data) → integer_between low high value ≡ Some n → (low ≤ n) × (n ≤ high)
integer_between-is low high n value e =
    let m = went_then (number_between low high) (option_and_then natural_of (as_integer value)) n e in
    number_between-is low high m.0 n m.2

pub number_setting-is : (entries : Members) (at : Key) (low high n : ℕ) → number_setting entries at low high ≡ Ok n → (low ≤ n) × (n ≤ high)
number_setting-is entries at low high n e =
    let v = went_on (required_value entries at) (λ value. or_out_of_range at (integer_between low high value)) n e in
    integer_between-is low high n v.0 (was_in_range at (integer_between low high v.0) n v.2)

amount_value-is : (value : Data) (z : ℤ) → amount_value value ≡ Some z → IsAmount z
amount_value-is value z e = by (integer_between 0 AMOUNT_LIMIT value) refl e
  where
    by : (o : Option ℕ) → integer_between 0 AMOUNT_LIMIT value ≡ o → option_map pos o ≡ Some z → IsAmount z
    by None same e = cc
    by (Some n) same e =
        let is_pos : pos n ≡ z = cc in
        let bound : (0 ≤ n) × (n ≤ AMOUNT_LIMIT) = integer_between-is 0 AMOUNT_LIMIT n value same in
        rw (← is_pos) (omega (arith, ints), omega (arith, ints))

pub amount_setting-is : (entries : Members) (at : Key) (z : ℤ) → amount_setting entries at ≡ Ok z → IsAmount z
amount_setting-is entries at z e =
    let v = went_on (required_value entries at) (λ value. or_out_of_range at (amount_value value)) z e in
    amount_value-is v.0 z (was_in_range at (amount_value v.0) z v.2)

pub budget_setting-is : (found : Option Data) (budget : Option ℤ) → amount_or_none found ≡ Ok budget → IfSome budget IsAmount
budget_setting-is None None e = tt
budget_setting-is None (Some z) e = cc
budget_setting-is (Some value) budget e =
    let w = went_on (or_out_of_range key.Budget (amount_value value)) (λ amount. Ok (Some amount)) budget e in
    let is_some : Some w.0 ≡ budget = cc in
    rw (← is_some) (amount_value-is value w.0 (was_in_range key.Budget (amount_value value) w.0 w.1))

-- the parts of values that are all there
went_cons : {A : Type 0} (o : Option A) (rest : List (Option A)) (xs : List A) → all_there (o ∷ rest) ≡ Some xs → (x : A) × (ys : List A) × (o ≡ Some x) × (all_there rest ≡ Some ys) × (x ∷ ys ≡ xs)
went_cons {A = A} None rest xs e = cc
went_cons {A = A} (Some x) rest xs e = by (all_there rest) refl e
  where
    by : (more : Option (List A)) → all_there rest ≡ more → option_map (λ ys. x ∷ ys) more ≡ Some xs → (y : A) × (ys : List A) × (Some x ≡ Some y) × (all_there rest ≡ Some ys) × (y ∷ ys ≡ xs)
    by None same e = cc
    by (Some ys) same e = let all : x ∷ ys ≡ xs = cc in (x, ys, refl, same, all)

all_there-length : {A : Type 0} (os : List (Option A)) (xs : List A) → all_there os ≡ Some xs → length xs ≡ length os
all_there-length [] xs e = let none : [] ≡ xs = cc in rw (← none)
all_there-length (o ∷ os) xs e = let w = went_cons o os xs e in rw (← w.4) (ap suc (all_there-length os w.1 w.3))

All-more : {A : Type 0} (P : A → Type 0) (x : A) (xs : List A) → P x → All P xs → All P (x ∷ xs)
All-more P x xs here later zero d within = here
All-more P x xs here later (suc k) d within = later k d (omega arith)

days-each : (values : List Data) (days : List ℕ) → all_there (map (integer_between 0 DAY_LIMIT) values) ≡ Some days → All (λ day. day ≤ DAY_LIMIT) days
days-each [] days e = let none : [] ≡ days = cc in rw (← none) (λ k d within. absurd (omega arith))
days-each (value ∷ values) days e =
    let w = went_cons (integer_between 0 DAY_LIMIT value) (map (integer_between 0 DAY_LIMIT) values) days e in
    rw (← w.4) (All-more (λ day. day ≤ DAY_LIMIT) w.0 w.1 (integer_between-is 0 DAY_LIMIT w.0 value w.2).1 (days-each values w.1 w.3))

day_list-kept : (months : ℕ) (values : List Data) (days : List ℕ) → day_list months values ≡ Some days → (length days ≡ months) × All (λ day. day ≤ DAY_LIMIT) days
day_list-kept months values days e = by (length values == months) refl e
  where
    by : (fits : Bool) → (length values == months) ≡ fits → (if fits then all_there (map (integer_between 0 DAY_LIMIT) values) else None) ≡ Some days → (length days ≡ months) × All (λ day. day ≤ DAY_LIMIT) days
    by true same there = (all_there-length (map (integer_between 0 DAY_LIMIT) values) days there ∙ (length-map values (integer_between 0 DAY_LIMIT) ∙ eqb-true _ _ same), days-each values days there)
    by false same there = cc

pub days_setting-kept : (entries : Members) (months : ℕ) (days : List ℕ) → days_setting entries months ≡ Ok days → (length days ≡ months) × All (λ day. day ≤ DAY_LIMIT) days
days_setting-kept entries months days e =
    let v = went_on (required_value entries key.Days) (λ value. or_out_of_range key.Days (day_array months value)) days e in
    let a = went_then (λ array. day_list months (items array)) (as_array v.0) days (was_in_range key.Days (day_array months v.0) days v.2) in
    day_list-kept months (items a.0) days a.2

pub setup-kept : (entries : Members) (s : Settings) → setup_of entries ≡ Ok s → IsSetup s
setup-kept entries s e =
    let format = went_on (number_setting entries key.Format 1 LAST_FORMAT) _ s e in
    let months = went_on (number_setting entries key.Months 1 MONTH_LIMIT) _ s format.2 in
    let days = went_on (days_setting entries months.0) _ s months.2 in
    let goal = went_on (goal_setting entries) _ s days.2 in
    let gap = went_on (amount_setting entries key.Gap) _ s goal.2 in
    let nodes = went_on (number_setting entries key.Nodes 1 NODE_SETTING_LIMIT) _ s gap.2 in
    let budget = went_on (budget_setting entries) _ s nodes.2 in
    let kept = days_setting-kept entries months.0 days.0 days.1 in
    let all : record { format = format.0; months = months.0; days = days.0; goal = goal.0; gap = gap.0; nodes = nodes.0; budget = budget.0 } ≡ s = cc (budget.2) in
    rw (← all) (record {
      format = number_setting-is entries key.Format 1 LAST_FORMAT format.0 format.1;
      months = number_setting-is entries key.Months 1 MONTH_LIMIT months.0 months.1;
      days = kept.0;
      day = kept.1;
      gap = amount_setting-is entries key.Gap gap.0 gap.1;
      nodes = number_setting-is entries key.Nodes 1 NODE_SETTING_LIMIT nodes.0 nodes.1;
      budget = budget_setting-is (get_member (key_name key.Budget) entries) budget.0 budget.1;
    })

-- settings that are read keep their ranges
pub settings-kept : (bytes : List ℕ) (s : Settings) → settings_of bytes ≡ Ok s → IsSetup s
unfolding settings_of
settings-kept bytes s e =
    let text = went_on (text_of SettingsFile bytes) _ s e in
    let document = went_on (document_of text.0) _ s text.2 in
    setup-kept document.0 s document.2
