-- A command's answer on its way: from what was read to what is given.
use Rattle.std.proofs.Common.{◌≡◌, ℕ, ◌≤◌, List, Option, Result, Ok, Err, IsErrOf, inl, refl, ap, sym, subst, arith}
use Rattle.std.specs.Prelude.{IfOk}
use Rattle.opt_base.specs.Outside.{Files, HasCause}
use Rattle.opt_base.specs.declared.refusal.File.{File}
use Rattle.opt_base.specs.declared.refusal.Refusal.{Refusal}
use Rattle.opt_model.specs.Tables.{Tables}
use Rattle.opt_model.specs.Plans.{Plan, plan_of}
use Rattle.opt_model.specs.Quantities.{quantities}
use Rattle.opt_reply.specs.declared.TheConstants.{OUTSIDE, MEMORY}
use Rattle.opt_reply.specs.Answer.{Answer}
use Rattle.opt_reply.specs.Delivery.{Standing, Faults, standing, faults, SomeRose, NoneFell, Delivers}
use Rattle.opt_reply.specs.Runs.{Runs}
use Rattle.opt_reply.proofs.CommandRuns.{runs_given, runs_outside, runs_memory}
use Rattle.opt_tables.specs.declared.fault.FetchFault.{FetchFault}
use Rattle.opt_tables.specs.declared.fault.FetchFault.TheVariants as fetch
use Rattle.optimus.specs.declared.reply.CommandFault.{CommandFault}
use Rattle.optimus.specs.declared.reply.CommandFault.TheVariants.{Outside, OutOfMemory}
use Rattle.optimus.specs.Folder.{Brings, IsModelIn, IsFileIn}
use Rattle.optimus.specs.Answers.{AnswersTo, AnswersModel, AnswersFile, RepliesTo, GivesNothing, Given}
use Rattle.optimus.specs.Auditing.{IsPlanIn, AnswersPlan}
use Rattle.optimus.specs.declared.command.Command.{Command}
use Rattle.optimus.specs.Words.{form_of, FormAnswers, WordsAnswers}

-- ---- what is answered to a fault of what was read
module _ {A : Type 0} (P : Result A Refusal → Type 0) (may : A → Answer → Type 0) where
  answers_fault : (fault : FetchFault) (result : Result Answer CommandFault) → Brings P (Err fault) → RepliesTo fault result
      → IfOk result (λ answer. (r : Result A Refusal) × P r × AnswersTo may r answer)
  answers_fault (fetch.Refused refusal) (Ok answer) is replies = (Err refusal, is, replies)
  answers_fault fetch.Outside (Ok answer) is replies = cc
  answers_fault fetch.OutOfMemory (Ok answer) is replies = cc
  answers_fault fault (Err other) is replies = tt

module _ (told : Option Files) (folder : List ℕ) where
  pub model_fault : (may : Tables → Answer → Type 0) (fault : FetchFault) (result : Result Answer CommandFault) → Brings (IsModelIn told folder) (Err fault) → RepliesTo fault result
      → IfOk result (AnswersModel told folder may)
  model_fault may fault (Ok answer) is replies =
      let p = answers_fault (IsModelIn told folder) may fault (Ok answer) is replies in
      record { model = p.0; model_is = p.1; answers = p.2 }
  model_fault may fault (Err other) is replies = tt

  pub model_answered : (may : Tables → Answer → Type 0) (t : Tables) (result : Result Answer CommandFault) → IsModelIn told folder (Ok t) → IfOk result (may t) → IfOk result (AnswersModel told folder may)
  model_answered may t (Ok answer) is answers = record { model = Ok t; model_is = is; answers = answers }
  model_answered may t (Err other) is answers = tt

  pub file_fault : (file : File) (most : ℕ) (may : List ℕ → Answer → Type 0) (fault : FetchFault) (result : Result Answer CommandFault) → Brings (IsFileIn told folder file most) (Err fault) → RepliesTo fault result
      → IfOk result (AnswersFile told folder file most may)
  file_fault file most may fault (Ok answer) is replies =
      let p = answers_fault (IsFileIn told folder file most) may fault (Ok answer) is replies in
      record { found = p.0; found_is = p.1; answers = p.2 }
  file_fault file most may fault (Err other) is replies = tt

  pub plan_fault : (t : Tables) (may : Plan → Answer → Type 0) (fault : FetchFault) (result : Result Answer CommandFault) → Brings (IsPlanIn told folder t) (Err fault) → RepliesTo fault result
      → IfOk result (AnswersPlan told folder t may)
  plan_fault t may fault (Ok answer) is replies =
      let p = answers_fault (IsPlanIn told folder t) (λ x. may (plan_of (quantities t) x)) fault (Ok answer) is replies in
      record { plan = p.0; plan_is = p.1; answers = p.2 }
  plan_fault t may fault (Err other) is replies = tt

pub small_fault : (fault : FetchFault) (result : Result Answer CommandFault) → RepliesTo fault result → IfOk result (λ answer. answer.status ≤ 3)
small_fault (fetch.Refused refusal) (Ok answer) replies = subst (λ (a : Answer). a.status ≤ 3) (sym replies) (omega arith)
small_fault fetch.Outside (Ok answer) replies = cc
small_fault fetch.OutOfMemory (Ok answer) replies = cc
small_fault fault (Err other) replies = tt

-- a fault of what was read is a fault of the command with the same cause
outside_fault : (fault : FetchFault) (result : Result Answer CommandFault) → RepliesTo fault result → IsErrOf result Outside → fault ≡ fetch.Outside
outside_fault (fetch.Refused refusal) (Ok answer) replies is = cc
outside_fault (fetch.Refused refusal) (Err other) replies is = cc
outside_fault fetch.Outside result replies is = refl
outside_fault fetch.OutOfMemory result replies is = cc

pub cause_of_fault : {A : Type 0} (fault : FetchFault) (result : Result Answer CommandFault) (before now : ℕ) → RepliesTo fault result
    → HasCause {T = A} fetch.Outside before now (Err fault) → HasCause Outside before now result
cause_of_fault fault result before now replies cause = record {
  later = cause.later;
  cause = λ is. cause.cause (ap Err (outside_fault fault result replies is));
}

-- an answer is no fault, so the outside has no part in it
not_outside : (answer : Answer) → IsErrOf (Ok answer) Outside → ⊥
not_outside answer is = cc

pub cause_of_answer : (answer : Answer) (before now : ℕ) → before ≤ now → HasCause {T = Answer} Outside before now (Ok answer)
cause_of_answer answer before now later = record { later = later; cause = λ is. absurd (not_outside answer is) }

-- ---- what is given
-- calls that only read change the shelf's count alone
one_later : (shelf shelf' out err : ℕ) → shelf ≤ shelf' → NoneFell (faults shelf out err) (faults shelf' out err)
one_later shelf shelf' out err later = record { shelf = later; out = omega arith; err = omega arith }

module _ (may : Answer → Type 0) (status : ℕ) (old new : Standing) (first before now : Faults) where
  nothing_outside : (status ≡ OUTSIDE) × GivesNothing old new before now → NoneFell first before → SomeRose first before → Runs may status old new first now
  nothing_outside (at, nothing) fell rose =
      let whole : Runs may OUTSIDE old old first before = runs_outside may old first before fell rose in
      rw (at, nothing.standing, nothing.faults) whole

  nothing_memory : (status ≡ MEMORY) × GivesNothing old new before now → NoneFell first before → Runs may status old new first now
  nothing_memory (at, nothing) fell =
      let whole : Runs may MEMORY old old first before = runs_memory may old first before fell in
      rw (at, nothing.standing, nothing.faults) whole

  given : (computed : Result Answer CommandFault) → IfOk computed may → IfOk computed (λ answer. answer.status ≤ 3) → NoneFell first before → (IsErrOf computed Outside → SomeRose first before)
      → Given computed status old new before now → Runs may status old new first now
  given (Ok answer) is few fell rose gives = runs_given may old new first before now answer status is few fell gives
  given (Err Outside) is few fell rose gives = nothing_outside gives fell (rose refl)
  given (Err OutOfMemory) is few fell rose gives = nothing_memory gives fell

-- a command computed its answer while it only read, and then gave it
pub runs_reply : (may : Answer → Type 0) (computed : Result Answer CommandFault) (status : ℕ) (files files' : Option Files) (out err : Option (List ℕ)) (new : Standing)
    (shelf shelf' written refused : ℕ) (now : Faults)
    → IfOk computed may → IfOk computed (λ answer. answer.status ≤ 3) → files' ≡ files → HasCause Outside shelf shelf' computed
    → Given computed status (standing files' out err) new (faults shelf' written refused) now
    → Runs may status (standing files out err) new (faults shelf written refused) now
runs_reply may computed status files files' out err new shelf shelf' written refused now is few same cause gives =
    given may status (standing files out err) new (faults shelf written refused) (faults shelf' written refused) now computed is few
    (one_later shelf shelf' written refused cause.later) (λ failed. inl (cause.cause failed))
    (subst (λ (f : Option Files). Given computed status (standing f out err) new (faults shelf' written refused) now) same gives)

-- a cause in the second of two calls, after the first let no count fall
pub cause_after : {A : Type 0} (result : Result A CommandFault) (first before now : ℕ) → first ≤ before → HasCause Outside before now result → HasCause Outside first now result
cause_after result first before now fell cause = record {
  later = (let more = cause.later in omega (arith, fell, more));
  cause = λ failed. (let rose = cause.cause failed in omega (arith, fell, rose));
}

-- ---- words
-- nothing changes a count in no time
same_counts : (before : Faults) → NoneFell before before
same_counts before = record { shelf = omega arith; out = omega arith; err = omega arith }

-- an answer was given at once
pub runs_at_once : (may : Answer → Type 0) (answer : Answer) (status : ℕ) (old new : Standing) (before now : Faults)
    → may answer → answer.status ≤ 3 → Delivers answer status old new before now → Runs may status old new before now
runs_at_once may answer status old new before now is few gives = runs_given may old new before before now answer status is few (same_counts before) gives

-- memory ran out at once
pub memory_at_once : (may : Answer → Type 0) (old : Standing) (before : Faults) → Runs may MEMORY old old before before
memory_at_once may old before = runs_memory may old before before (same_counts before)

-- what was run is what the words ask for
pub runs_form : (told : Option Files) (words : List (List ℕ)) (form : Option (Command × List ℕ)) (status : ℕ) (old new : Standing) (before now : Faults)
    → form_of words ≡ form → Runs (FormAnswers told form) status old new before now → Runs (WordsAnswers told words) status old new before now
runs_form told words form status old new before now is runs =
    subst (λ (f : Option (Command × List ℕ)). Runs (FormAnswers told f) status old new before now) (sym is) runs
