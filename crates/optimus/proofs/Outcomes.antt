-- The outcome of a plan can be given, and its certificate is checked with the same answer.
use Rattle.std.proofs.Common.{◌≡◌, inl, inr, ℕ, ◌≤◌, List, [], ◌∷◌, ◌++◌, length, append_assoc, Option, Some, None, Result, Ok, Err, ℤ, pos, negsuc, ◌≤ℤ◌, refl, ap, sym, ◌∙◌, subst, arith}
use Rattle.std.specs.Prelude.{IfOk, IfSome}
use Rattle.std.proofs.lemmas.Int.{ints}
use Rattle.opt_base.specs.declared.refusal.File.TheVariants as file
use Rattle.opt_base.specs.declared.verdict.Verdict.{Verdict}
use Rattle.opt_base.specs.declared.verdict.Verdict.TheVariants as verdict
use Rattle.opt_model.specs.Tables.{Tables}
use Rattle.opt_model.specs.Plans.{Plan}
use Rattle.opt_model.specs.Quantities.{rations}
use Rattle.opt_model.specs.Texts.{outcome_line}
use Rattle.opt_model.specs.Verdicts.{IsTrueVerdict}
use Rattle.opt_plan.specs.Models.{own_system}
use Rattle.opt_plan.specs.Outcomes.{best_plan}
use Rattle.opt_plan.specs.Problems.{IsOutcomeFor}
use Rattle.opt_reply.specs.Answer.{Put, Answer}
use Rattle.opt_report.specs.Summaries.{IsShown, IsSummed, summary_text}
use Rattle.opt_rows.specs.Systems.{root_of}
use Rattle.opt_search.specs.Outcomes.{FollowsGuide}
use Rattle.opt_simplex.specs.Guide.{IsClippedEnd, IsFirstCut}
use Rattle.opt_dive.specs.Guide.{IsDive}
use Rattle.opt_system.specs.Ranges.{IsWithin}
use Rattle.opt_system.specs.Systems.{System, Meets}
use Rattle.opt_tables.specs.Files.{path_of}
use Rattle.opt_tree.specs.declared.outcome.Outcome.{Outcome}
use Rattle.opt_tree.specs.Certificates.{IsInRange, HasRanges}
use Rattle.opt_tree.specs.Outcomes.{outcome_certificate}
use Rattle.opt_tree.specs.Trees.{node_count}
use Rattle.opt_tree.specs.Nodes.{tree_of}
use Rattle.opt_cert.specs.Texts.{certificate_text}
use Rattle.opt_cert.specs.Wholes.{IsTextOf}
use Rattle.optimus.specs.Answers.{printed_answer}
use Rattle.optimus.specs.Checking.{shown_answer, ChecksText}
use Rattle.optimus.specs.Planning.{FollowsDives, IsReadable, IsRepeated, PlansModel}
use Rattle.optimus.specs.Verdicts.{status_of, nodes_of, plan_file_of, summary_path, with_put, with_outcome, outcome_answer}

-- ---- numbers
in_range_shown : (z : ℤ) → IsInRange z → IsShown z
in_range_shown (pos n) h = record { from_zero = h.from_zero; small = (let small = h.small in omega (arith, ints, small)) }
in_range_shown (negsuc n) h = absurd (omega (arith, ints, h.from_zero))

-- the bound of a plan is at most its objective
abbrev pub IsUnder : Verdict → Type 0
IsUnder (verdict.Plan objective bound) = bound ≤ℤ objective
IsUnder verdict.NoPlan = Unit {0}
IsUnder (verdict.Unfinished bound best) = Unit {0}

pub summed_by : (v : Verdict) → HasRanges v → IsUnder v → IsSummed v
summed_by (verdict.Plan objective bound) ranges under = (in_range_shown objective ranges.0, (in_range_shown bound ranges.1, under))
summed_by verdict.NoPlan ranges under = tt
summed_by (verdict.Unfinished bound None) ranges under = (in_range_shown bound ranges, tt)
summed_by (verdict.Unfinished bound (Some best)) ranges under = (in_range_shown bound ranges.0, in_range_shown best ranges.1)

under_by : (t : Tables) (v : Verdict) (plan : Plan) → IsTrueVerdict t v plan → IsUnder v
under_by t (verdict.Plan objective bound) plan h = (let under = h.bound_under in omega (arith, ints, under))
under_by t verdict.NoPlan plan h = tt
under_by t (verdict.Unfinished bound best) plan h = tt

pub summed_outcome : (t : Tables) (o : Outcome) → IsOutcomeFor t o → IsSummed o.verdict
summed_outcome t o is = summed_by o.verdict is.proved.certificate.verdict (under_by t o.verdict (best_plan t o) is.true_verdict)

pub small_status : (v : Verdict) → status_of v ≤ 3
small_status (verdict.Plan objective bound) = omega arith
small_status verdict.NoPlan = omega arith
small_status (verdict.Unfinished bound best) = omega arith

-- ---- the best point
met_within : (s : System) (best : Option (List ℤ)) → IfSome best (Meets s) → IfSome best (IsWithin s.root)
met_within s None h = tt
met_within s (Some x) h = h.in_range

pub within_outcome : (t : Tables) (o : Outcome) → IsOutcomeFor t o → IfSome o.best (IsWithin (root_of t))
within_outcome t o is = met_within (own_system t) o.best is.proved.best_met

-- ---- the certificate
module _ (folder : List ℕ) (t : Tables) (o : Outcome) (is : IsOutcomeFor t o) where
  own_text : IsTextOf (outcome_certificate o) (certificate_text (outcome_certificate o))
  own_text = record { certificate = is.proved.certificate; written = refl }

  same_answer : (checked : Answer) → ChecksText t (certificate_text (outcome_certificate o)) checked → checked ≡ printed_answer (status_of o.verdict) (outcome_line o.verdict (nodes_of o))
  same_answer checked (inl refuses) = absurd (refuses.none (outcome_certificate o) own_text)
  same_answer checked (inr judges) =
      judges.answer_is (outcome_certificate o) own_text
      ∙ (ap (λ r. shown_answer r (node_count (tree_of o.tree))) is.proved.verdict_shown
      ∙ ap (λ n. printed_answer (status_of o.verdict) (outcome_line o.verdict n)) is.proved.counted.all_nodes)

  pub repeated : (answer : Answer) → answer ≡ outcome_answer folder t o → IsRepeated t o answer
  repeated answer same checked checks = rw same (same_answer checked checks)

-- ---- what is made of the outcome
module _ {E : Type 0} (folder : List ℕ) (t : Tables) (o : Outcome) where
  pub plans_outcome : (r : Result Answer E) → IfOk r (λ answer. answer ≡ outcome_answer folder t o) → IsOutcomeFor t o → FollowsDives t o → IsReadable o → IfOk r (PlansModel folder t)
  plans_outcome (Ok answer) same is follows readable = record {
    outcome = o;
    answer_is = same;
    proved = is;
    guided = follows;
    readable = readable;
    repeats = repeated folder t o is answer same;
  }
  plans_outcome (Err e) same is follows readable = tt

  pub small_outcome : (r : Result Answer E) → IfOk r (λ answer. answer ≡ outcome_answer folder t o) → IfOk r (λ answer. answer.status ≤ 3)
  small_outcome (Ok answer) same = subst (λ (a : Answer). a.status ≤ 3) (sym same) (small_status o.verdict)
  small_outcome (Err e) same = tt

-- the rations of a layout are those of its model
pub follows_dives : {E : Type 0} (t : Tables) (n : ℕ) (r : Result Outcome E) → n ≡ length (rations t)
    → IfOk r (FollowsGuide IsClippedEnd (IsDive n) IsFirstCut (own_system t) t.settings.gap) → IfOk r (FollowsDives t)
follows_dives t n r same follows = subst (λ k. IfOk r (FollowsGuide IsClippedEnd (IsDive k) IsFirstCut (own_system t) t.settings.gap)) same follows

-- three puts one after the other
pub three_puts : (puts : List Put) (a b c : Put) → ((puts ++ a ∷ []) ++ b ∷ []) ++ c ∷ [] ≡ puts ++ a ∷ b ∷ c ∷ []
three_puts puts a b c = append_assoc (puts ++ a ∷ []) (b ∷ []) (c ∷ []) ∙ append_assoc puts (a ∷ []) (b ∷ c ∷ [])

-- three puts were made one after the other, and then a line was printed
added_puts : (old one two three new : Answer) (a b c : Put) (line text : List ℕ) → one ≡ record old { puts = old.puts ++ a ∷ [] } → two ≡ record one { puts = one.puts ++ b ∷ [] }
    → three ≡ record two { puts = two.puts ++ c ∷ [] } → new ≡ record three { printed = three.printed ++ line } → line ≡ text
    → new ≡ record old { puts = old.puts ++ a ∷ b ∷ c ∷ []; printed = old.printed ++ text }
added_puts old one two three new a b c line text first second third printed same =
    let kept : new ≡ record old { puts = ((old.puts ++ a ∷ []) ++ b ∷ []) ++ c ∷ []; printed = old.printed ++ text } = rw (printed, third, second, first, same) refl in
    kept ∙ ap (λ (puts : List Put). record old { puts = puts; printed = old.printed ++ text }) (three_puts old.puts a b c)

module _ (folder : List ℕ) (t : Tables) (o : Outcome) where
  -- the files of an outcome were put one after the other, and then its line was printed
  pub outcome_added : (old one two three new : Answer) (line : List ℕ) → one ≡ with_put old (path_of folder file.Certificate) (certificate_text (outcome_certificate o))
      → two ≡ with_put one (path_of folder file.Plan) (plan_file_of t o.best)
      → three ≡ with_put two (summary_path folder) (summary_text t.settings.goal o.verdict (nodes_of o))
      → new ≡ record three { printed = three.printed ++ line } → line ≡ outcome_line o.verdict (nodes_of o) → new ≡ with_outcome old folder t o
  outcome_added old one two three new line first second third printed same =
      added_puts old one two three new (path_of folder file.Certificate, certificate_text (outcome_certificate o)) (path_of folder file.Plan, plan_file_of t o.best)
      (summary_path folder, summary_text t.settings.goal o.verdict (nodes_of o)) line (outcome_line o.verdict (nodes_of o)) first second third printed same
