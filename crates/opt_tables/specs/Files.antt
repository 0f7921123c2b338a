-- The files of a model, by name: what each holds, and which are admitted.
use Rattle.std.specs.Prelude.{ℕ, Bool, true, false, List, [], ◌∷◌, ◌++◌, length, nat_le, unwrap_or, Option, Some, None, Result, Ok, Err, if◌then◌else◌}
use Rattle.opt_base.specs.declared.refusal.File.{File}
use Rattle.opt_base.specs.declared.refusal.File.TheVariants.{Settings, Commodities, Groups, Nutrients, Contents, Places, Offers, Arcs, Persons, Stock, Baskets, Needs, Model, Plan, Certificate, Edits, Executed}
use Rattle.opt_base.specs.declared.refusal.Kind.TheVariants.{MissingFile, FileTooBig}
use Rattle.opt_base.specs.declared.refusal.Refusal.{Refusal}
use Rattle.opt_base.specs.Refusals.{refusal_of_file}
use Rattle.opt_base.specs.Answers.{◌>>=◌, each}
use Rattle.opt_base.specs.Outside.{Files as Held}
use Rattle.opt_model.specs.Texts.{file_name}

-- what each model file holds; nothing where there is no such file
pub record ModelFiles : Type 0 where
  pub settings : Option (List ℕ)
  pub commodities : Option (List ℕ)
  pub groups : Option (List ℕ)
  pub nutrients : Option (List ℕ)
  pub contents : Option (List ℕ)
  pub places : Option (List ℕ)
  pub offers : Option (List ℕ)
  pub arcs : Option (List ℕ)
  pub persons : Option (List ℕ)
  pub stock : Option (List ℕ)
  pub baskets : Option (List ℕ)
  pub needs : Option (List ℕ)

-- no file
abbrev pub no_files : ModelFiles
no_files = record { settings = None; commodities = None; groups = None; nutrients = None; contents = None; places = None; offers = None; arcs = None; persons = None; stock = None; baskets = None; needs = None }

-- the model files, in the order in which they are got and refused
abbrev pub model_files : List File
model_files = Settings ∷ Commodities ∷ Groups ∷ Nutrients ∷ Contents ∷ Places ∷ Offers ∷ Arcs ∷ Persons ∷ Stock ∷ Baskets ∷ Needs ∷ []

-- a file is one of the model files
abbrev pub IsModelFile : File → Type 0
IsModelFile Model = ⊥
IsModelFile Plan = ⊥
IsModelFile Certificate = ⊥
IsModelFile Edits = ⊥
IsModelFile Executed = ⊥
IsModelFile _ = Unit {0}

-- what a model file holds
abbrev pub file_of : ModelFiles → File → Option (List ℕ)
file_of files Settings = files.settings
file_of files Commodities = files.commodities
file_of files Groups = files.groups
file_of files Nutrients = files.nutrients
file_of files Contents = files.contents
file_of files Places = files.places
file_of files Offers = files.offers
file_of files Arcs = files.arcs
file_of files Persons = files.persons
file_of files Stock = files.stock
file_of files Baskets = files.baskets
file_of files Needs = files.needs
file_of files _ = None

-- the same files, but what a model file holds is replaced
abbrev pub with_file : ModelFiles → File → Option (List ℕ) → ModelFiles
with_file files Settings bytes = record files { settings = bytes }
with_file files Commodities bytes = record files { commodities = bytes }
with_file files Groups bytes = record files { groups = bytes }
with_file files Nutrients bytes = record files { nutrients = bytes }
with_file files Contents bytes = record files { contents = bytes }
with_file files Places bytes = record files { places = bytes }
with_file files Offers bytes = record files { offers = bytes }
with_file files Arcs bytes = record files { arcs = bytes }
with_file files Persons bytes = record files { persons = bytes }
with_file files Stock bytes = record files { stock = bytes }
with_file files Baskets bytes = record files { baskets = bytes }
with_file files Needs bytes = record files { needs = bytes }
with_file files _ bytes = files

-- the bytes of a model file; none where there is no such file
abbrev pub bytes_of : ModelFiles → File → List ℕ
bytes_of files file = unwrap_or (file_of files file) []

-- whether a model file must be there
abbrev pub is_required : File → Bool
is_required Settings = true
is_required Commodities = true
is_required Nutrients = true
is_required Contents = true
is_required _ = false

-- how many bytes a model file may have
abbrev pub limit_of : File → ℕ
limit_of Settings = 65536
limit_of _ = 16777216

-- what a file holds, which is refused where it must be there and is not, or has too many bytes
abbrev pub admitted : File → Option (List ℕ) → Result (Option (List ℕ)) Refusal
admitted file None = if is_required file then Err (refusal_of_file file MissingFile) else Ok None
admitted file (Some bytes) = if nat_le (length bytes) (limit_of file) then Ok (Some bytes) else Err (refusal_of_file file FileTooBig)

-- the first refusal of a file as a whole
abbrev pub checked : File → Option (List ℕ) → Result (Unit {0}) Refusal
checked file bytes = admitted file bytes >>= λ held. Ok tt

-- goes on where one more file is admitted
abbrev pub with_checked : ModelFiles → ℕ → File → Unit {0} → Result (Unit {0}) Refusal
with_checked files number file made = checked file (file_of files file)

-- the first refusal of the files as wholes
abbrev pub all_checked : ModelFiles → Result (Unit {0}) Refusal
all_checked files = each (with_checked files) 0 tt model_files

-- where a file of a folder is held
abbrev pub path_of : List ℕ → File → List ℕ
path_of folder file = folder ++ (47 ∷ file_name file)

-- what a shelf that holds these files has in a folder
abbrev pub files_in : Held → List ℕ → ModelFiles
files_in held folder = record {
  settings = held (path_of folder Settings);
  commodities = held (path_of folder Commodities);
  groups = held (path_of folder Groups);
  nutrients = held (path_of folder Nutrients);
  contents = held (path_of folder Contents);
  places = held (path_of folder Places);
  offers = held (path_of folder Offers);
  arcs = held (path_of folder Arcs);
  persons = held (path_of folder Persons);
  stock = held (path_of folder Stock);
  baskets = held (path_of folder Baskets);
  needs = held (path_of folder Needs);
}

-- the model files of a folder, or the first of them that is refused as a whole
abbrev pub fetch_of : Held → List ℕ → Result ModelFiles Refusal
fetch_of held folder = all_checked (files_in held folder) >>= λ checked. Ok (files_in held folder)
