-- What is found in a folder: the model of its files, or a file that must be there. Where the shelf tells what it holds, these
-- are the folder's own files, and else some files.
use Rattle.std.specs.Prelude.{◌≡◌, ℕ, List, length, nat_le, Option, Some, None, Result, Ok, Err, if◌then◌else◌}
use Rattle.opt_base.specs.declared.refusal.File.{File}
use Rattle.opt_base.specs.declared.refusal.Kind.TheVariants.{MissingFile, FileTooBig}
use Rattle.opt_base.specs.declared.refusal.ModelFault.{ModelFault}
use Rattle.opt_base.specs.declared.refusal.ModelFault.TheVariants as reading
use Rattle.opt_base.specs.declared.refusal.Refusal.{Refusal}
use Rattle.opt_base.specs.Outside.{Files}
use Rattle.opt_base.specs.Refusals.{refusal_of_file}
use Rattle.opt_model.specs.Tables.{Tables}
use Rattle.opt_plan.specs.Models.{model_of}
use Rattle.opt_tables.specs.Files.{ModelFiles, files_in, path_of}
use Rattle.opt_tables.specs.declared.fault.FetchFault.{FetchFault}
use Rattle.opt_tables.specs.declared.fault.FetchFault.TheVariants.{Refused, Outside, OutOfMemory}

-- what a fault of the model's reader is to a reader of the folder
abbrev pub fetch_fault_of : ModelFault → FetchFault
fetch_fault_of (reading.Refused refusal) = Refused refusal
fetch_fault_of reading.OutOfMemory = OutOfMemory

-- a call that reads brings a value or a refusal of this kind, unless the outside failed or memory ran out
abbrev pub Brings : {A : Type 0} → (Result A Refusal → Type 0) → Result A FetchFault → Type 0
Brings may (Ok x) = may (Ok x)
Brings may (Err (Refused refusal)) = may (Err refusal)
Brings may (Err Outside) = Unit {0}
Brings may (Err OutOfMemory) = Unit {0}

-- the model of a folder, or the first refusal of its files
pub record IsModelIn (told : Option Files) (folder : List ℕ) (model : Result Tables Refusal) : Type 0 where
  pub files : ModelFiles
  pub model_is : model ≡ model_of files
  pub as_held : (held : Files) → told ≡ Some held → files ≡ files_in held folder

-- what a file that must be there holds; refused where there is none, or where it has more bytes than this
abbrev pub needed : File → ℕ → Option (List ℕ) → Result (List ℕ) Refusal
needed file most None = Err (refusal_of_file file MissingFile)
needed file most (Some bytes) = if nat_le (length bytes) most then Ok bytes else Err (refusal_of_file file FileTooBig)

-- the bytes of this file of a folder, or its refusal
pub record IsFileIn (told : Option Files) (folder : List ℕ) (file : File) (most : ℕ) (found : Result (List ℕ) Refusal) : Type 0 where
  pub bytes : Option (List ℕ)
  pub found_is : found ≡ needed file most bytes
  pub as_held : (held : Files) → told ≡ Some held → bytes ≡ held (path_of folder file)
