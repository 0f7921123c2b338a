-- What was got of a folder is that of its own files, where they are told, and else of some files.
use Rattle.std.proofs.Common.{◌≡◌, ◌≢◌, inl, inr, ℕ, ◌+◌, ◌<◌, ◌≤◌, Bool, true, false, cond, nat_le, List, [], length, replicate, Option, Some, None, Result, Ok, Err, All, refl, sym, ◌∙◌, ap, subst, arith}
use Rattle.std.specs.Prelude.{IfOk}
use Rattle.std.proofs.lemmas.List.{length-replicate}
use Rattle.std.proofs.lemmas.List.Elements.{All-from_recursion, All-contains}
use Rattle.std.proofs.lemmas.Bool.{cond-true, cond-false}
use Rattle.std.proofs.lemmas.Bool.Decides.{nat_tests}
use Rattle.opt_base.specs.Answers.{◌>>=◌, Fails}
use Rattle.opt_base.specs.Outside.{Files, IsFound, IsWithin, found_of}
use Rattle.opt_base.specs.Refusals.{refusal_of_file}
use Rattle.opt_base.specs.declared.outside.Found.{Found}
use Rattle.opt_base.specs.declared.outside.Found.TheVariants.{Bytes, Missing, TooBig}
use Rattle.opt_base.specs.declared.refusal.File.{File}
use Rattle.opt_base.specs.declared.refusal.File.TheVariants.{Settings, Commodities, Groups, Nutrients, Contents, Places, Offers, Arcs, Persons, Stock, Baskets, Needs}
use Rattle.opt_base.specs.declared.refusal.Kind.TheVariants.{MissingFile, FileTooBig}
use Rattle.opt_base.specs.declared.refusal.ModelFault.{ModelFault}
use Rattle.opt_base.specs.declared.refusal.ModelFault.TheVariants as reading
use Rattle.opt_base.specs.declared.refusal.Refusal.{Refusal}
use Rattle.opt_model.specs.Tables.{Tables}
use Rattle.opt_plan.specs.Models.{model_of}
use Rattle.opt_tables.specs.Files.{ModelFiles, model_files, with_file, is_required, limit_of, checked, all_checked, files_in, fetch_of, path_of}
use Rattle.opt_tables.specs.Fetched.{IsOfFile, IsGot, RefusesOne}
use Rattle.opt_tables.specs.Model.{tables_of}
use Rattle.opt_tables.specs.declared.fault.FetchFault.{FetchFault}
use Rattle.opt_tables.specs.declared.fault.FetchFault.TheVariants.{Refused, Outside, OutOfMemory}
use Rattle.optimus.specs.Folder.{fetch_fault_of, Brings, IsModelIn, needed, IsFileIn}

-- ---- some files that are refused so
-- each file is there and holds no byte
abbrev all_empty : ModelFiles
all_empty = record {
  settings = Some [];
  commodities = Some [];
  groups = Some [];
  nutrients = Some [];
  contents = Some [];
  places = Some [];
  offers = Some [];
  arcs = Some [];
  persons = Some [];
  stock = Some [];
  baskets = Some [];
  needs = Some [];
}

-- a refusal of this file as a whole is the first refusal of some files
abbrev Refusable : File → Type 0
Refusable file = (bytes : Option (List ℕ)) (refusal : Refusal) → checked file bytes ≡ Err refusal → (files : ModelFiles) × (all_checked files ≡ Err refusal)

bind_err : {A B E : Type 0} (r : Result A E) (f : A → Result B E) (fault : E) → r ≡ Err fault → (r >>= f) ≡ Err fault
bind_err (Ok x) f fault h = cc
bind_err (Err e) f fault h = cc

alone : (file : File) → ((bytes : Option (List ℕ)) → all_checked (with_file all_empty file bytes) ≡ (checked file bytes >>= λ x. Ok tt)) → Refusable file
alone file ends bytes refusal h = (with_file all_empty file bytes, ends bytes ∙ bind_err (checked file bytes) (λ x. Ok tt) refusal h)

each_refusable : All Refusable model_files
each_refusable = All-from_recursion Refusable model_files (
  alone Settings (λ b. refl),
  (
    alone Commodities (λ b. refl),
    (
      alone Groups (λ b. refl),
      (
        alone Nutrients (λ b. refl),
        (
          alone Contents (λ b. refl),
          (
            alone Places (λ b. refl),
            (
              alone Offers (λ b. refl),
              (
                alone Arcs (λ b. refl),
                (alone Persons (λ b. refl), (alone Stock (λ b. refl), (alone Baskets (λ b. refl), (alone Needs (λ b. refl), tt)))),
              ),
            ),
          ),
        ),
      ),
    ),
  ),
)

past_limit : (a b : ℕ) → b < a → nat_le a b ≡ false
past_limit a b h = grind (arith, nat_tests)

too_big : (file : File) (bytes : List ℕ) → limit_of file < length bytes → checked file (Some bytes) ≡ Err (refusal_of_file file FileTooBig)
too_big file bytes long =
    ap (λ (r : Result (Option (List ℕ)) Refusal). r >>= λ held. Ok tt)
    (cond-false (nat_le (length bytes) (limit_of file)) (Ok (Some bytes)) (Err (refusal_of_file file FileTooBig)) (past_limit (length bytes) (limit_of file) long))

missing : (file : File) → is_required file ≡ true → checked file None ≡ Err (refusal_of_file file MissingFile)
missing file required =
    ap (λ (r : Result (Option (List ℕ)) Refusal). r >>= λ held. Ok tt)
    (cond-true (is_required file) (Err (refusal_of_file file MissingFile)) (Ok None) required)

-- more bytes than these
longer : (most : ℕ) → (bytes : List ℕ) × (most < length bytes)
longer most =
    let long : length (replicate {A = ℕ} (most + 1) 0) ≡ most + 1 = length-replicate {A = ℕ} (most + 1) 0 in
    let more : most < length (replicate {A = ℕ} (most + 1) 0) = omega (arith, long) in
    (replicate {A = ℕ} (most + 1) 0, more)

refused_alone : (file : File) (refusal : Refusal) → Refusable file → IsOfFile file refusal → (files : ModelFiles) × (all_checked files ≡ Err refusal)
refused_alone file refusal refusable (inl same) =
    let long : (bytes : List ℕ) × (limit_of file < length bytes) = longer (limit_of file) in
    refusable (Some long.0) refusal (too_big file long.0 long.1 ∙ ap Err (sym same))
refused_alone file refusal refusable (inr (required, same)) = refusable None refusal (missing file required ∙ ap Err (sym same))

refused_files : (refusal : Refusal) → RefusesOne model_files (Refused refusal) → (files : ModelFiles) × (all_checked files ≡ Err refusal)
refused_files refusal (file, within, is) = refused_alone file refusal (All-contains Refusable model_files file each_refusable within) is

-- files that are refused as wholes are no model
no_model : (files : ModelFiles) (refusal : Refusal) → all_checked files ≡ Err refusal → Err refusal ≡ model_of files
unfolding tables_of
no_model files refusal h = rw h refl

-- ---- a fault of the model's reader
pub fails_got : {X Y : Type 0} (view : X → Y) (fault : ModelFault) (read : Result Y Refusal) → Fails fault read → IsGot view (Err (fetch_fault_of fault)) read
fails_got view (reading.Refused refusal) read h = h
fails_got view reading.OutOfMemory read h = tt

pub not_outside : (fault : ModelFault) → fetch_fault_of fault ≢ Outside
not_outside (reading.Refused refusal) = λ e. cc
not_outside reading.OutOfMemory = λ e. cc

-- ---- the model of a folder
-- a check and a value: the value, or the check's refusal
checked_ok : {A B : Type 0} (r : Result A Refusal) (x y : B) → (r >>= λ z. Ok x) ≡ Ok y → y ≡ x
checked_ok (Ok z) x y e = cc
checked_ok (Err f) x y e = absurd cc

checked_err : {A B : Type 0} (r : Result A Refusal) (x : B) (f : Refusal) → (r >>= λ z. Ok x) ≡ Err f → r ≡ Err f
checked_err (Ok z) x f e = absurd cc
checked_err (Err g) x f e = cc

module _ (told : Option Files) (folder : List ℕ) where
  -- the files that were got are the folder's own, where they are told
  own_files : (files : ModelFiles) → ((held : Files) → told ≡ Some held → fetch_of held folder ≡ Ok files) → (held : Files) → told ≡ Some held → files ≡ files_in held folder
  own_files files found held is = checked_ok (all_checked (files_in held folder)) (files_in held folder) files (found held is)

  model_fetched : (files : ModelFiles) (model : Result Tables Refusal) → model ≡ model_of files → ((held : Files) → told ≡ Some held → fetch_of held folder ≡ Ok files) → IsModelIn told folder model
  model_fetched files model is found = record { files = files; model_is = is; as_held = own_files files found }

  -- the files of a folder were got, and their model read
  pub brings_model : (files : ModelFiles) (result : Result Tables FetchFault) → IsGot (λ t. t) result (model_of files)
      → ((held : Files) → told ≡ Some held → fetch_of held folder ≡ Ok files) → Brings (IsModelIn told folder) result
  brings_model files (Ok t) got found = model_fetched files (Ok t) (sym got) found
  brings_model files (Err (Refused refusal)) got found = model_fetched files (Err refusal) (sym got) found
  brings_model files (Err Outside) got found = tt
  brings_model files (Err OutOfMemory) got found = tt

  model_refused : (told' : Option Files) → told ≡ told' → (refusal : Refusal) → RefusesOne model_files (Refused refusal)
      → ((held : Files) → told ≡ Some held → fetch_of held folder ≡ Err refusal) → IsModelIn told folder (Err refusal)
  model_refused None same refusal one found =
      let files : (files : ModelFiles) × (all_checked files ≡ Err refusal) = refused_files refusal one in
      record { files = files.0; model_is = no_model files.0 refusal files.1; as_held = λ held is. absurd cc }
  model_refused (Some all) same refusal one found = record {
    files = files_in all folder;
    model_is = no_model (files_in all folder) refusal (checked_err (all_checked (files_in all folder)) (files_in all folder) refusal (found all same));
    as_held = λ held is. (let alike : all ≡ held = cc in ap (λ (h : Files). files_in h folder) alike);
  }

  -- the files of a folder were refused as wholes, or not got
  pub brings_refusal : (fault : FetchFault) → RefusesOne model_files fault
      → ((held : Files) → told ≡ Some held → IsGot (λ (files : ModelFiles). files) (Err fault) (fetch_of held folder)) → Brings (IsModelIn told folder) (Err fault)
  brings_refusal (Refused refusal) one found = model_refused told refl refusal one found
  brings_refusal Outside one found = tt
  brings_refusal OutOfMemory one found = tt

-- ---- a file that must be there
-- what is found of some bytes says what is answered to them
module _ (file : File) where
  bytes_of_size : (fits : Bool) (held bytes : List ℕ) → Bytes bytes ≡ cond fits (Bytes held) TooBig → cond fits (Ok held) (Err (refusal_of_file file FileTooBig)) ≡ Ok bytes
  bytes_of_size true held bytes is = cc
  bytes_of_size false held bytes is = absurd cc

  too_big_of_size : (fits : Bool) (held : List ℕ) → TooBig ≡ cond fits (Bytes held) TooBig → cond fits (Ok held) (Err (refusal_of_file file FileTooBig)) ≡ Err (refusal_of_file file FileTooBig)
  too_big_of_size true held is = absurd cc
  too_big_of_size false held is = refl

  taken_of_size : (fits : Bool) (held bytes : List ℕ) → cond fits (Ok held) (Err (refusal_of_file file FileTooBig)) ≡ Ok bytes → (fits ≡ true) × (held ≡ bytes)
  taken_of_size true held bytes is = (refl, cc)
  taken_of_size false held bytes is = absurd cc

  missing_of_size : (fits : Bool) (held : List ℕ) → Missing ≡ cond fits (Bytes held) TooBig → ⊥
  missing_of_size true held is = cc
  missing_of_size false held is = cc

  pub needed_bytes : (most : ℕ) (held : Option (List ℕ)) (bytes : List ℕ) → Bytes bytes ≡ found_of most held → needed file most held ≡ Ok bytes
  needed_bytes most None bytes is = absurd cc
  needed_bytes most (Some held) bytes is = bytes_of_size (nat_le (length held) most) held bytes is

  pub needed_missing : (most : ℕ) (held : Option (List ℕ)) → Missing ≡ found_of most held → needed file most held ≡ Err (refusal_of_file file MissingFile)
  needed_missing most None is = refl
  needed_missing most (Some held) is = absurd (missing_of_size (nat_le (length held) most) held is)

  pub needed_too_big : (most : ℕ) (held : Option (List ℕ)) → TooBig ≡ found_of most held → needed file most held ≡ Err (refusal_of_file file FileTooBig)
  needed_too_big most None is = absurd cc
  needed_too_big most (Some held) is = too_big_of_size (nat_le (length held) most) held is

-- what is found of some bytes
some_bytes : (most : ℕ) (found : Found) → IsWithin most found → (bytes : Option (List ℕ)) × (found ≡ found_of most bytes)
some_bytes most (Bytes bytes) within = (Some bytes, sym (cond-true (nat_le (length bytes) most) (Bytes bytes) TooBig (grind (arith, nat_tests))))
some_bytes most Missing within = (None, refl)
some_bytes most TooBig within =
    let long : (bytes : List ℕ) × (most < length bytes) = longer most in
    (Some long.0, sym (cond-false (nat_le (length long.0) most) (Bytes long.0) TooBig (past_limit (length long.0) most long.1)))

module _ (told : Option Files) (folder : List ℕ) (file : File) (most : ℕ) where
  file_of_bytes : (bytes : Option (List ℕ)) (result : Result (List ℕ) FetchFault) → IsGot (λ b. b) result (needed file most bytes)
      → ((held : Files) → told ≡ Some held → bytes ≡ held (path_of folder file)) → Brings (IsFileIn told folder file most) result
  file_of_bytes bytes (Ok b) got own = record { bytes = bytes; found_is = sym got; as_held = own }
  file_of_bytes bytes (Err (Refused refusal)) got own = record { bytes = bytes; found_is = sym got; as_held = own }
  file_of_bytes bytes (Err Outside) got own = tt
  file_of_bytes bytes (Err OutOfMemory) got own = tt

  by_telling : (told' : Option Files) → told ≡ told' → (found : Found) (result : Result (List ℕ) FetchFault) → IsFound told' (path_of folder file) most found → IsWithin most found
      → ((bytes : Option (List ℕ)) → found ≡ found_of most bytes → IsGot (λ b. b) result (needed file most bytes)) → Brings (IsFileIn told folder file most) result
  by_telling None same found result is within exact =
      let some : (bytes : Option (List ℕ)) × (found ≡ found_of most bytes) = some_bytes most found within in
      file_of_bytes some.0 result (exact some.0 some.1) (λ held told_so. absurd cc)
  by_telling (Some all) same found result is within exact =
      file_of_bytes (all (path_of folder file)) result (exact (all (path_of folder file)) is)
      (λ held told_so. (let alike : all ≡ held = cc in ap (λ (h : Files). h (path_of folder file)) alike))

  -- what was found of a file is that of its own bytes, where they are told, and else of some bytes
  pub brings_file : (path : List ℕ) → path ≡ path_of folder file → (found : Found) (result : Result (List ℕ) FetchFault) → IsFound told path most found → IsWithin most found
      → ((bytes : Option (List ℕ)) → found ≡ found_of most bytes → IsGot (λ b. b) result (needed file most bytes)) → Brings (IsFileIn told folder file most) result
  brings_file path at found result is within exact =
      by_telling told refl found result (subst (λ (p : List ℕ). IsFound told p most found) at is) within exact

  needed_within : (bytes : Option (List ℕ)) (b : List ℕ) → needed file most bytes ≡ Ok b → length b ≤ most
  needed_within None b h = cc
  needed_within (Some held) b h =
      let p : (nat_le (length held) most ≡ true) × (held ≡ b) = taken_of_size file (nat_le (length held) most) held b h in
      subst (λ (bs : List ℕ). length bs ≤ most) p.1 (grind (arith, nat_tests, p.0))

  -- a file that is taken is within its limit
  pub found_within : (result : Result (List ℕ) FetchFault) → Brings (IsFileIn told folder file most) result → IfOk result (λ b. length b ≤ most)
  found_within (Ok b) is = needed_within is.bytes b (sym is.found_is)
  found_within (Err fault) is = tt
