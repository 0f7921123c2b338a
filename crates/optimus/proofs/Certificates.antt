-- What the checker answers of a certificate's text is what is answered to it.
use Rattle.std.proofs.Common.{◌≡◌, inl, inr, ℕ, ◌≤◌, List, length, Result, Ok, Err, ℤ, pos, ◌≤ℤ◌, ap, sym, ◌∙◌, subst, arith}
use Rattle.std.specs.Prelude.{IfOk}
use Rattle.std.proofs.lemmas.Int.{ints}
use Rattle.std.proofs.lemmas.List.{length-map}
use Rattle.opt_base.specs.declared.verdict.Verdict.{Verdict}
use Rattle.opt_base.specs.declared.verdict.Verdict.TheVariants as verdict
use Rattle.opt_model.specs.Tables.{Tables}
use Rattle.opt_model.specs.Quantities.{quantities}
use Rattle.opt_model.specs.Plans.{goal_terms, plan_of}
use Rattle.opt_model.specs.Rows.{coefficient}
use Rattle.opt_model.specs.Texts.{outcome_line}
use Rattle.opt_model.specs.Verdicts.{IsTrueVerdict, node_limit}
use Rattle.opt_plan.specs.Models.{own_system}
use Rattle.opt_plan.proofs.OwnQuestion.{true_of_tables}
use Rattle.opt_reply.specs.Answer.{Answer}
use Rattle.opt_report.specs.Summaries.{IsSummed}
use Rattle.opt_system.specs.Systems.{System, IsLimited}
use Rattle.opt_tree.specs.declared.check_fault.CheckFault.{CheckFault}
use Rattle.opt_tree.specs.Certificates.{Certificate, HasRanges, listed_point}
use Rattle.opt_tree.specs.Shown.{shown}
use Rattle.opt_tree.specs.Trees.{node_count}
use Rattle.opt_tree.specs.Verdicts as system_verdict
use Rattle.opt_tree.proofs.ShownTrue.{shown_verdict}
use Rattle.opt_cert.specs.declared.cert_fault.CertFault.{CertFault}
use Rattle.opt_cert.specs.Reading.{text_lines}
use Rattle.opt_cert.specs.Wholes.{IsTextOf}
use Rattle.opt_check.specs.declared.bytes_fault.BytesFault.{BytesFault}
use Rattle.opt_check.specs.Bytes.{HasCertificate, IsOfText, IsOfShown, IsTrueOfText}
use Rattle.opt_check.specs.Lines.{cert_fault_line, check_fault_line}
use Rattle.opt_check.specs.declared.bytes_fault.BytesFault.TheVariants.{Cert, Check, OutOfMemory}
use Rattle.optimus.specs.Answers.{refused_with, printed_answer}
use Rattle.optimus.specs.Checking.{shown_answer, shown_of, listed_plan, IsAnswerTo, ChecksText}
use Rattle.optimus.specs.Verdicts.{status_of}
use Rattle.optimus.proofs.Outcomes.{IsUnder, summed_by, small_status}

-- ---- one answer of two
same_ok : {A E : Type 0} (r : Result A E) (x y : A) → r ≡ Ok x → r ≡ Ok y → x ≡ y
same_ok r x y one two = cc

no_ok : {A E : Type 0} (r : Result A E) (fault : E) (x : A) → r ≡ Err fault → r ≡ Ok x → ⊥
no_ok r fault x one two = cc

-- ---- what is shown
under_system : (s : System) (gap : ℤ) (v : Verdict) (x : List ℤ) → system_verdict.IsTrueVerdict s gap v x → IsUnder v
under_system s gap (verdict.Plan objective bound) x h = (let under = h.bound_under in omega (arith, ints, under))
under_system s gap verdict.NoPlan x h = tt
under_system s gap (verdict.Unfinished bound best) x h = tt

module _ (s : System) (gap : ℤ) (limit : ℕ) (bytes : List ℕ) (v : Verdict) (nodes : ℕ) where
  -- the numbers of a verdict that is shown can be printed
  pub summed_text : IsLimited s → pos 0 ≤ℤ gap → IsTrueOfText s gap bytes v
      → ((c : Certificate) → IsTextOf c bytes → IsOfShown (Ok (v, nodes)) (shown s gap limit c) (node_count c.tree)) → IsSummed v
  summed_text limited from_zero is shows =
      let c : Certificate = is.certificate in
      let same : c.verdict ≡ v = shown_verdict s gap limit c v limited from_zero is.text.certificate (shows c is.text).0 in
      summed_by v (subst HasRanges same is.text.certificate.verdict) (under_system s gap v _ is.is_true)

module _ (t : Tables) (bytes : List ℕ) (s : System) (gap : ℤ) (limit : ℕ) (is : s ≡ own_system t) (same_gap : gap ≡ t.settings.gap) (same_limit : limit ≡ node_limit t) where
  shown_same : (c : Certificate) → shown s gap limit c ≡ shown_of t c
  shown_same c =
      ap (λ (p : System). shown p gap limit c) is
      ∙ (ap (λ z. shown (own_system t) z limit c) same_gap ∙ ap (λ n. shown (own_system t) t.settings.gap n c) same_limit)

  -- a verdict that is true of the system with the listed point is true of the model with the listed plan
  true_of_listed : (c : Certificate) (v : Verdict) → system_verdict.IsTrueVerdict s gap v (listed_point (length s.cost) c.point) → IsTrueVerdict t v (listed_plan t c)
  true_of_listed c v h =
      let at_system : system_verdict.IsTrueVerdict (own_system t) gap v (listed_point (length (own_system t).cost) c.point) =
      subst (λ (p : System). system_verdict.IsTrueVerdict p gap v (listed_point (length p.cost) c.point)) is h
      in
      let own : system_verdict.IsTrueVerdict (own_system t) t.settings.gap v (listed_point (length (own_system t).cost) c.point) =
      subst (λ z. system_verdict.IsTrueVerdict (own_system t) z v (listed_point (length (own_system t).cost) c.point)) same_gap at_system
      in
      let count : length (own_system t).cost ≡ length (quantities t) = length-map (quantities t) (coefficient (goal_terms t t.settings.goal)) in
      subst (λ n. IsTrueVerdict t v (plan_of (quantities t) (listed_point n c.point))) count (true_of_tables t v (listed_point (length (own_system t).cost) c.point) own)

  -- a verdict is shown
  pub checks_verdict : (v : Verdict) (nodes : ℕ) → IsTrueOfText s gap bytes v
      → ((c : Certificate) → IsTextOf c bytes → IsOfShown (Ok (v, nodes)) (shown s gap limit c) (node_count c.tree))
      → (answer : Answer) → answer ≡ printed_answer (status_of v) (outcome_line v nodes) → ChecksText t bytes answer
  checks_verdict v nodes true_text shows answer same = inr (record {
    certificate = true_text.certificate;
    text = true_text.text;
    answer_is = λ c text.
        same ∙ (ap (λ n. printed_answer (status_of v) (outcome_line v n)) (shows c text).1
        ∙ ap (λ r. shown_answer r (node_count c.tree)) (sym (sym (shown_same c) ∙ (shows c text).0)));
    true_verdict = λ w h.
        let c : Certificate = true_text.certificate in
        let same_verdict : v ≡ w = same_ok (shown_of t c) v w (sym (shown_same c) ∙ (shows c true_text.text).0) h in
        true_of_listed c w (subst (λ (u : Verdict). system_verdict.IsTrueVerdict s gap u (listed_point (length s.cost) c.point)) same_verdict true_text.is_true);
  })

  -- the text is that of a certificate that does not show its verdict
  pub checks_fault : (fault : CheckFault) → HasCertificate bytes
      → ((c : Certificate) → IsTextOf c bytes → IsOfShown (Err (Check fault)) (shown s gap limit c) (node_count c.tree))
      → (answer : Answer) → answer ≡ refused_with (check_fault_line fault) → ChecksText t bytes answer
  checks_fault fault has shows answer same = inr (record {
    certificate = has.certificate;
    text = has.text;
    answer_is = λ c text. same ∙ ap (λ r. shown_answer r (node_count c.tree)) (sym (sym (shown_same c) ∙ shows c text));
    true_verdict = λ w h. absurd (no_ok (shown_of t has.certificate) fault w (sym (shown_same has.certificate) ∙ shows has.certificate has.text) h);
  })

-- the text is no certificate
pub checks_text : (t : Tables) (bytes : List ℕ) (s : System) (gap : ℤ) (limit : ℕ) (fault : CertFault) → text_lines bytes ≡ Err fault
    → ((c : Certificate) → IsTextOf c bytes → IsOfShown (Err (Cert fault)) (shown s gap limit c) (node_count c.tree))
    → (answer : Answer) → answer ≡ refused_with (cert_fault_line fault) → ChecksText t bytes answer
checks_text t bytes s gap limit fault first shows answer same = inl (record { fault = fault; first = first; none = shows; answer_is = same })

module _ (t : Tables) (bytes : List ℕ) (s : System) (gap : ℤ) (limit : ℕ) (is : s ≡ own_system t) (same_gap : gap ≡ t.settings.gap) (same_limit : limit ≡ node_limit t) where
  -- what is answered to what the checker says is answered to the text
  pub judged : (r : Result (Verdict × ℕ) BytesFault) → IsOfText r bytes → ((c : Certificate) → IsTextOf c bytes → IsOfShown r (shown s gap limit c) (node_count c.tree))
      → IfOk r (λ answer. IsTrueOfText s gap bytes answer.0) → (answer : Answer) → IsAnswerTo r answer → ChecksText t bytes answer
  judged (Ok answered) text shows true_text answer same = checks_verdict t bytes s gap limit is same_gap same_limit answered.0 answered.1 true_text shows answer same
  judged (Err (Cert fault)) text shows true_text answer same = checks_text t bytes s gap limit fault text shows answer same
  judged (Err (Check fault)) text shows true_text answer same = checks_fault t bytes s gap limit is same_gap same_limit fault text shows answer same
  judged (Err OutOfMemory) text shows true_text answer same = absurd same

pub summed_by_text : (s : System) (gap : ℤ) (limit : ℕ) (bytes : List ℕ) (r : Result (Verdict × ℕ) BytesFault) → IsLimited s → pos 0 ≤ℤ gap
    → ((c : Certificate) → IsTextOf c bytes → IsOfShown r (shown s gap limit c) (node_count c.tree)) → IfOk r (λ answer. IsTrueOfText s gap bytes answer.0) → IfOk r (λ answer. IsSummed answer.0)
summed_by_text s gap limit bytes (Ok answered) limited from_zero shows true_text = summed_text s gap limit bytes answered.0 answered.1 limited from_zero true_text shows
summed_by_text s gap limit bytes (Err fault) limited from_zero shows true_text = tt

-- what holds of each answer that is so
pub answered_by : {E : Type 0} (P Q : Answer → Type 0) (r : Result Answer E) → ((answer : Answer) → P answer → Q answer) → IfOk r P → IfOk r Q
answered_by P Q (Ok answer) each is = each answer is
answered_by P Q (Err fault) each is = tt

-- the status of a verdict, and of a refusal
pub small_printed : {E : Type 0} (v : Verdict) (nodes : ℕ) (r : Result Answer E) → IfOk r (λ answer. answer ≡ printed_answer (status_of v) (outcome_line v nodes)) → IfOk r (λ answer. answer.status ≤ 3)
small_printed v nodes (Ok answer) same = subst (λ (a : Answer). a.status ≤ 3) (sym same) (small_status v)
small_printed v nodes (Err fault) same = tt

pub small_refused : {E : Type 0} (line : List ℕ) (r : Result Answer E) → IfOk r (λ answer. answer ≡ refused_with line) → IfOk r (λ answer. answer.status ≤ 3)
small_refused line (Ok answer) same = subst (λ (a : Answer). a.status ≤ 3) (sym same) (omega arith)
small_refused line (Err fault) same = tt
