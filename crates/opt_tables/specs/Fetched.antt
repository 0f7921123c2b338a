-- What is got of a folder.
use Rattle.std.specs.Prelude.{◌≡◌, ◌⊎◌, ℕ, true, List, [], ◌∷◌, Contains, Option, Result, Ok, Err}
use Rattle.opt_base.specs.declared.refusal.File.{File}
use Rattle.opt_base.specs.declared.refusal.Refusal.{Refusal}
use Rattle.opt_base.specs.Answers.{◌>>=◌, each}
use Rattle.opt_base.specs.Outside.{Files}
use Rattle.opt_base.specs.Refusals.{refusal_of_file}
use Rattle.opt_base.specs.declared.refusal.Kind.TheVariants.{MissingFile, FileTooBig}
use Rattle.opt_tables.specs.Files.{ModelFiles, no_files, model_files, with_file, is_required, admitted, path_of}
use Rattle.opt_tables.specs.declared.fault.FetchFault.{FetchFault}
use Rattle.opt_tables.specs.declared.fault.FetchFault.TheVariants.{Refused, Outside, OutOfMemory}

-- what a file of a folder holds, or its refusal as a whole
abbrev pub got : Files → List ℕ → File → Result (Option (List ℕ)) Refusal
got held folder file = admitted file (held (path_of folder file))

-- the files so far and one more
abbrev pub with_got : Files → List ℕ → ℕ → File → ModelFiles → Result ModelFiles Refusal
with_got held folder number file made = got held folder file >>= λ bytes. Ok (with_file made file bytes)

-- the same of all model files
abbrev pub all_got : Files → List ℕ → Result ModelFiles Refusal
all_got held folder = each (with_got held folder) 0 no_files model_files

-- a call got what is read, unless memory ran out or the outside failed
abbrev pub IsGot : {X Y : Type 0} → (X → Y) → Result X FetchFault → Result Y Refusal → Type 0
IsGot view (Ok x) read = read ≡ Ok (view x)
IsGot view (Err (Refused refusal)) read = read ≡ Err refusal
IsGot view (Err Outside) read = Unit {0}
IsGot view (Err OutOfMemory) read = Unit {0}

-- the files of a folder, or the first refusal, unless memory ran out or the outside failed
abbrev pub Fetched : Result ModelFiles FetchFault → Result ModelFiles Refusal → Type 0
Fetched result read = IsGot (λ files. files) result read

-- these files were got one after the other, and each was admitted
abbrev pub GetsEach : List File → ModelFiles → ModelFiles → Type 0
GetsEach [] old new = old ≡ new
GetsEach (file ∷ order) old new = (bytes : Option (List ℕ)) × (admitted file bytes ≡ Ok bytes) × GetsEach order (with_file old file bytes) new

-- a file is refused as a whole: it has too many bytes, or must be there and is not
abbrev pub IsOfFile : File → Refusal → Type 0
IsOfFile file refusal = (refusal ≡ refusal_of_file file FileTooBig) ⊎ ((is_required file ≡ true) × (refusal ≡ refusal_of_file file MissingFile))

-- what is refused is one of these files as a whole
abbrev pub RefusesOne : List File → FetchFault → Type 0
RefusesOne order (Refused refusal) = (file : File) × Contains order file × IsOfFile file refusal
RefusesOne order Outside = Unit {0}
RefusesOne order OutOfMemory = Unit {0}
