-- No row of a system is broken just where a point meets the system, and so just where its plan is feasible.
use Rattle.std.proofs.Common.{◌≡◌, ◌≢◌, ℕ, ◌+◌, ◌<◌, ◌≤◌, Bool, true, false, not, cond, List, [], ◌∷◌, ◌++◌, length, All, None, Result, Ok, Err, ℤ, refl, sym, ◌∙◌, ap, subst, arith}
use Rattle.std.specs.Prelude.{◌↔◌, IfOk}
use Rattle.std.specs.List.{flat_map, enumerate_from, AllByRecursion}
use Rattle.std.proofs.lemmas.List.{length-map}
use Rattle.std.proofs.lemmas.List.Elements.{All-from_recursion, recursion_from_All}
use Rattle.opt_model.specs.Tables.{Tables}
use Rattle.opt_model.specs.Quantities.{quantities, low, list_if}
use Rattle.opt_model.specs.Plans.{Plan, Feasible, plan_of}
use Rattle.opt_model.specs.Rows.{rows}
use Rattle.opt_model.specs.declared.records.Goal.{Goal}
use Rattle.opt_plan.specs.Models.{own_system}
use Rattle.opt_plan.proofs.ModelLimits.{rows_counted}
use Rattle.opt_reply.specs.Answer.{Answer}
use Rattle.opt_report.specs.Audits.{audit_text}
use Rattle.opt_report.specs.Broken.{distance, breach_at, broken_by, breaches_of}
use Rattle.opt_rows.specs.Laws.{IsAllowedList, SpeaksFor}
use Rattle.opt_rows.specs.Systems.{root_of, system_of}
use Rattle.opt_sums.specs.Entries.{dot}
use Rattle.opt_system.specs.Broken.{meets_row}
use Rattle.opt_system.specs.Ranges.{IsWithin}
use Rattle.opt_system.specs.Rows.{Holds}
use Rattle.opt_system.specs.Systems.{System, Meets}
use Rattle.opt_system.specs.declared.rows.Row.{Row}
use Rattle.opt_system.proofs.BrokenLemmas.{meets_row-Decides}
use Rattle.optimus.specs.Answers.{printed_answer}
use Rattle.optimus.specs.Auditing.{status_with, audit_answer, AuditsPlan}
use Rattle.optimus.specs.Reporting.{written_answer, unless_broken, ReportsPlan}

-- a list that begins with an entry where a test fails
tested : (b : Bool) (entry : ℕ × ℤ) (rest : List (ℕ × ℤ)) → list_if (not b) (entry ∷ []) ++ rest ≡ [] → (b ≡ true) × (rest ≡ [])
tested true entry rest h = (refl, h)
tested false entry rest h = absurd cc

untested : (b : Bool) (entry : ℕ × ℤ) (rest : List (ℕ × ℤ)) → b ≡ true → rest ≡ [] → list_if (not b) (entry ∷ []) ++ rest ≡ []
untested true entry rest is none = none
untested false entry rest is none = absurd cc

module _ (x : List ℤ) where
  all_hold : (number : ℕ) (rows : List Row) → flat_map (λ (r : ℕ × Row). breach_at x r.0 r.1) (enumerate_from number rows) ≡ [] → AllByRecursion (λ row. Holds row x) rows
  all_hold number [] none = tt
  all_hold number (row ∷ rows) none =
      let here = tested (meets_row row x) (number, distance (dot row.terms x) row.right_hand_side) (flat_map (λ (r : ℕ × Row). breach_at x r.0 r.1) (enumerate_from (number + 1) rows)) none in
      ((meets_row-Decides row x).0 here.0, all_hold (number + 1) rows here.1)

  none_broken : (number : ℕ) (rows : List Row) → AllByRecursion (λ row. Holds row x) rows → flat_map (λ (r : ℕ × Row). breach_at x r.0 r.1) (enumerate_from number rows) ≡ []
  none_broken number [] hold = refl
  none_broken number (row ∷ rows) hold =
      untested (meets_row row x) (number, distance (dot row.terms x) row.right_hand_side) (flat_map (λ (r : ℕ × Row). breach_at x r.0 r.1) (enumerate_from (number + 1) rows))
      ((meets_row-Decides row x).1 hold.0) (none_broken (number + 1) rows hold.1)

-- the rows that are broken are rows of the system
numbers_below : (b : Bool) (entry : ℕ × ℤ) (limit : ℕ) → entry.0 < limit → AllByRecursion (λ (row : ℕ × ℤ). row.0 < limit) (list_if (not b) (entry ∷ []))
numbers_below true entry limit below = tt
numbers_below false entry limit below = (below, tt)

joined : {A : Type 0} (P : A → Type 0) (xs ys : List A) → AllByRecursion P xs → AllByRecursion P ys → AllByRecursion P (xs ++ ys)
joined P [] ys h k = k
joined P (x ∷ xs) ys h k = (h.0, joined P xs ys h.1 k)

few_from : (x : List ℤ) (number limit : ℕ) (rows : List Row) → number + length rows ≤ limit
    → AllByRecursion (λ (row : ℕ × ℤ). row.0 < limit) (flat_map (λ (r : ℕ × Row). breach_at x r.0 r.1) (enumerate_from number rows))
few_from x number limit [] h = tt
few_from x number limit (row ∷ rows) h =
    joined (λ (row : ℕ × ℤ). row.0 < limit) _ _ (numbers_below (meets_row row x) (number, distance (dot row.terms x) row.right_hand_side) limit (omega arith))
    (few_from x (number + 1) limit rows (omega arith))

module _ (t : Tables) (x : List ℤ) (speaks : SpeaksFor t t.settings.goal None (own_system t)) (within : IsWithin (root_of t) x) where
  feasible_of : broken_by (own_system t) x ≡ [] → Feasible t (plan_of (quantities t) x)
  feasible_of none =
      let hold : All (λ row. Holds row x) (own_system t).rows = All-from_recursion (λ row. Holds row x) (own_system t).rows (all_hold x 0 (own_system t).rows none) in
      let meets : Meets (own_system t) x = record { in_range = within; rows_hold = hold } in
      ((speaks.meets x).0 meets).allowed.feasible

  broken_of : Feasible t (plan_of (quantities t) x) → length x ≡ length (quantities t) → broken_by (own_system t) x ≡ []
  broken_of feasible one_each =
      let allowed : IsAllowedList t None x = record { one_each = one_each; allowed = record { feasible = feasible; capped = tt } } in
      let meets : Meets (own_system t) x = (speaks.meets x).1 allowed in
      none_broken x 0 (own_system t).rows (recursion_from_All (λ row. Holds row x) (own_system t).rows meets.rows_hold)

-- ---- the status
status_none : (breaches : List (ℕ × ℤ)) → (status_with breaches ≡ 0) ↔ (breaches ≡ [])
status_none [] = (λ h. refl, λ h. refl)
status_none (breach ∷ breaches) = (λ h. absurd cc, λ h. absurd cc)

pub status_feasible : {P : Type 0} (breaches : List (ℕ × ℤ)) → ((breaches ≡ []) ↔ P) → (status_with breaches ≡ 0) ↔ P
status_feasible breaches h = (λ at. h.0 ((status_none breaches).0 at), λ p. (status_none breaches).1 (h.1 p))

pub status_some : (breaches : List (ℕ × ℤ)) → breaches ≢ [] → status_with breaches ≡ 1
status_some [] other = absurd (other refl)
status_some (breach ∷ breaches) other = refl

pub small_breaches : (breaches : List (ℕ × ℤ)) → status_with breaches ≤ 3
small_breaches [] = omega arith
small_breaches (breach ∷ breaches) = omega arith

-- ---- what is found of a model's system
module _ {E : Type 0} (t : Tables) (s : System) (x : List ℤ) (is : s ≡ own_system t) where
  pub breaches_by : (r : Result (List (ℕ × ℤ)) E) → IfOk r (λ broken. (u : Tables) (goal : Goal) → s ≡ system_of u goal None → broken ≡ breaches_of u (plan_of (quantities u) x))
      → IfOk r (λ broken. broken ≡ breaches_of t (plan_of (quantities t) x))
  breaches_by (Ok broken) h = h t t.settings.goal is
  breaches_by (Err e) h = tt

  pub few_breaches : (r : Result (List (ℕ × ℤ)) E) → IfOk r (λ broken. broken ≡ broken_by s x) → IfOk r (All (λ row. row.0 < length (rows t)))
  few_breaches (Ok broken) h =
      let own : broken ≡ broken_by (own_system t) x = h ∙ ap (λ (p : System). broken_by p x) is in
      let below : AllByRecursion (λ (row : ℕ × ℤ). row.0 < length (rows t)) (broken_by (own_system t) x) = few_from x 0 (length (rows t)) (own_system t).rows (let count = rows_counted t in omega (arith, count)) in
      subst (All (λ (row : ℕ × ℤ). row.0 < length (rows t))) (sym own) (All-from_recursion (λ (row : ℕ × ℤ). row.0 < length (rows t)) (broken_by (own_system t) x) below)
  few_breaches (Err e) h = tt

  pub feasible_breaches : (r : Result (List (ℕ × ℤ)) E) → SpeaksFor t t.settings.goal None s → IsWithin (root_of t) x → IfOk r (λ broken. broken ≡ broken_by s x)
      → IfOk r (λ broken. (broken ≡ []) ↔ Feasible t (plan_of (quantities t) x))
  feasible_breaches (Ok broken) speaks within h =
      let own : broken ≡ broken_by (own_system t) x = h ∙ ap (λ (p : System). broken_by p x) is in
      let law : SpeaksFor t t.settings.goal None (own_system t) = subst (SpeaksFor t t.settings.goal None) is speaks in
      let one_each : length x ≡ length (quantities t) = within.same_length ∙ length-map (quantities t) (low t) in
      (λ none. feasible_of t x law within (sym own ∙ none), λ feasible. own ∙ broken_of t x law within feasible one_each)
  feasible_breaches (Err e) speaks within h = tt

-- ---- what is answered to the rows that are found
same_audit : (t : Tables) (plan : Plan) (broken : List (ℕ × ℤ)) → broken ≡ breaches_of t plan
    → printed_answer (status_with broken) (audit_text t broken) ≡ audit_answer t plan
same_audit t plan broken are = ap (λ (b : List (ℕ × ℤ)). printed_answer (status_with b) (audit_text t b)) are

module _ {E : Type 0} (t : Tables) (plan : Plan) (broken : List (ℕ × ℤ)) (are : broken ≡ breaches_of t plan) (feasible : (broken ≡ []) ↔ Feasible t plan) where
  pub audits_plan : (r : Result Answer E) → IfOk r (λ answer. answer ≡ printed_answer (status_with broken) (audit_text t broken)) → IfOk r (AuditsPlan t plan)
  audits_plan (Ok answer) same = record {
    answer_is = same ∙ same_audit t plan broken are;
    feasible = subst (λ (a : Answer). (a.status ≡ 0) ↔ Feasible t plan) (sym same) (status_feasible broken feasible);
  }
  audits_plan (Err e) same = tt

  pub small_audit : (r : Result Answer E) → IfOk r (λ answer. answer ≡ printed_answer (status_with broken) (audit_text t broken)) → IfOk r (λ answer. answer.status ≤ 3)
  small_audit (Ok answer) same = subst (λ (a : Answer). a.status ≤ 3) (sym same) (small_breaches broken)
  small_audit (Err e) same = tt

  -- no row is broken
  pub reports_plan : (folder : List ℕ) (r : Result Answer E) → broken ≡ [] → IfOk r (λ answer. answer ≡ written_answer folder t plan) → IfOk r (ReportsPlan folder t plan)
  reports_plan folder (Ok answer) none same = record {
    answer_is = same ∙ ap (unless_broken folder t plan) (sym none ∙ are);
    feasible = subst (λ (a : Answer). (a.status ≡ 0) ↔ Feasible t plan) (sym same) (λ at. feasible.0 none, λ holds. refl);
  }
  reports_plan folder (Err e) none same = tt

  pub small_written : (folder : List ℕ) (r : Result Answer E) → IfOk r (λ answer. answer ≡ written_answer folder t plan) → IfOk r (λ answer. answer.status ≤ 3)
  small_written folder (Ok answer) same = subst (λ (a : Answer). a.status ≤ 3) (sym same) (omega arith)
  small_written folder (Err e) same = tt

  -- a row is broken
  pub reports_broken : (folder : List ℕ) (r : Result Answer E) → broken ≢ [] → IfOk r (λ answer. answer ≡ printed_answer (status_with broken) (audit_text t broken)) → IfOk r (ReportsPlan folder t plan)
  reports_broken folder (Ok answer) some same = record {
    answer_is = same ∙ (same_audit t plan broken are ∙ (some_broken broken some ∙ ap (unless_broken folder t plan) are));
    feasible = subst (λ (a : Answer). (a.status ≡ 0) ↔ Feasible t plan) (sym same) (status_feasible broken feasible);
  }
    where
      some_broken : (b : List (ℕ × ℤ)) → b ≢ [] → audit_answer t plan ≡ unless_broken folder t plan b
      some_broken [] other = absurd (other refl)
      some_broken (breach ∷ breaches) other = refl
  reports_broken folder (Err e) some same = tt
