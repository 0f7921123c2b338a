-- What the commands answer with: a refusal's line, or what is made of a folder's model.
use Rattle.std.specs.Prelude.{◌≡◌, ℕ, List, [], Option, Result, Ok, Err}
use Rattle.opt_base.specs.declared.refusal.File.{File}
use Rattle.opt_base.specs.declared.refusal.Refusal.{Refusal}
use Rattle.opt_base.specs.Outside.{Files}
use Rattle.opt_model.specs.Tables.{Tables}
use Rattle.opt_model.specs.Texts.{refusal_line}
use Rattle.opt_reply.specs.declared.TheConstants.{OUTSIDE, MEMORY}
use Rattle.opt_reply.specs.Answer.{Answer}
use Rattle.opt_reply.specs.Delivery.{Standing, Faults, Delivers}
use Rattle.opt_tables.specs.declared.fault.FetchFault.{FetchFault}
use Rattle.opt_tables.specs.declared.fault.FetchFault.TheVariants as fetch
use Rattle.optimus.specs.declared.reply.CommandFault.{CommandFault}
use Rattle.optimus.specs.declared.reply.CommandFault.TheVariants.{Outside, OutOfMemory}
use Rattle.optimus.specs.Folder.{IsModelIn, IsFileIn}

-- a refusal with this line, which goes to err; nothing else is given
abbrev pub refused_with : List ℕ → Answer
refused_with line = record { status = 3; puts = []; printed = []; refused = line }

-- a refusal of the model or of a plan file
abbrev pub refused_answer : Refusal → Answer
refused_answer refusal = refused_with (refusal_line refusal)

-- an answer that prints these lines alone
abbrev pub printed_answer : ℕ → List ℕ → Answer
printed_answer status lines = record { status = status; puts = []; printed = lines; refused = [] }

-- what may be answered to a value, or the refusal
abbrev pub AnswersTo : {A : Type 0} → (A → Answer → Type 0) → Result A Refusal → Answer → Type 0
AnswersTo may (Ok x) answer = may x answer
AnswersTo may (Err refusal) answer = answer ≡ refused_answer refusal

-- what may be answered to the model of a folder, or the refusal of its files
pub record AnswersModel (told : Option Files) (folder : List ℕ) (may : Tables → Answer → Type 0) (answer : Answer) : Type 0 where
  pub model : Result Tables Refusal
  pub model_is : IsModelIn told folder model
  pub answers : AnswersTo may model answer

-- what may be answered to the bytes of a file of a folder, or the refusal of this file
pub record AnswersFile (told : Option Files) (folder : List ℕ) (file : File) (most : ℕ) (may : List ℕ → Answer → Type 0) (answer : Answer) : Type 0 where
  pub found : Result (List ℕ) Refusal
  pub found_is : IsFileIn told folder file most found
  pub answers : AnswersTo may found answer

-- ---- answers on their way
-- what is answered to a fault of what was read: its line, where that is refused; what it is worth to the command else
abbrev pub RepliesTo : FetchFault → Result Answer CommandFault → Type 0
RepliesTo (fetch.Refused refusal) (Ok answer) = answer ≡ refused_answer refusal
RepliesTo (fetch.Refused refusal) (Err fault) = fault ≡ OutOfMemory
RepliesTo fetch.Outside result = result ≡ Err Outside
RepliesTo fetch.OutOfMemory result = result ≡ Err OutOfMemory

-- nothing was given, and no count changed
pub record GivesNothing (old new : Standing) (before now : Faults) : Type 0 where
  pub standing : new ≡ old
  pub faults : now ≡ before

-- an answer was delivered; where there was none, nothing was given
abbrev pub Given : Result Answer CommandFault → ℕ → Standing → Standing → Faults → Faults → Type 0
Given (Ok answer) status old new before now = Delivers answer status old new before now
Given (Err Outside) status old new before now = (status ≡ OUTSIDE) × GivesNothing old new before now
Given (Err OutOfMemory) status old new before now = (status ≡ MEMORY) × GivesNothing old new before now
