-- Getting the files of a folder one by one is getting all, where none is refused.
use Rattle.std.proofs.Common.{◌≡◌, ℕ, ◌+◌, Bool, true, false, List, [], ◌∷◌, length, nat_le, Option, Some, None, Result, Ok, Err, refl, sym}
use Rattle.opt_base.specs.declared.refusal.File.{File}
use Rattle.opt_base.specs.declared.refusal.File.TheVariants.{Settings, Commodities, Groups, Nutrients, Contents, Places, Offers, Arcs, Persons, Stock, Baskets, Needs, Model, Plan, Certificate, Edits, Executed}
use Rattle.opt_base.specs.declared.refusal.Refusal.{Refusal}
use Rattle.opt_base.specs.Answers.{◌>>=◌, each}
use Rattle.opt_base.specs.Outside.{Files}
use Rattle.opt_tables.specs.Files.{ModelFiles, no_files, model_files, file_of, with_file, admitted, is_required, limit_of, with_checked, path_of, files_in, fetch_of, IsModelFile}
use Rattle.opt_tables.specs.Fetched.{with_got, all_got}

-- what a folder's files have at a model file
file_of-files_in : (held : Files) (folder : List ℕ) (file : File) → IsModelFile file → file_of (files_in held folder) file ≡ held (path_of folder file)
file_of-files_in held folder Settings is = refl
file_of-files_in held folder Commodities is = refl
file_of-files_in held folder Groups is = refl
file_of-files_in held folder Nutrients is = refl
file_of-files_in held folder Contents is = refl
file_of-files_in held folder Places is = refl
file_of-files_in held folder Offers is = refl
file_of-files_in held folder Arcs is = refl
file_of-files_in held folder Persons is = refl
file_of-files_in held folder Stock is = refl
file_of-files_in held folder Baskets is = refl
file_of-files_in held folder Needs is = refl
file_of-files_in held folder Model is = absurd is
file_of-files_in held folder Plan is = absurd is
file_of-files_in held folder Certificate is = absurd is
file_of-files_in held folder Edits is = absurd is
file_of-files_in held folder Executed is = absurd is

-- what is admitted is what is held
admitted-same : (file : File) (bytes taken : Option (List ℕ)) → admitted file bytes ≡ Ok taken → taken ≡ bytes
admitted-same file None taken h = by (is_required file) refl
  where
    by : (b : Bool) → is_required file ≡ b → taken ≡ None
    by true e = let refused = rw e at h in cc
    by false e = let same = rw e at h in cc
admitted-same file (Some bytes) taken h = by (nat_le (length bytes) (limit_of file)) refl
  where
    by : (b : Bool) → nat_le (length bytes) (limit_of file) ≡ b → taken ≡ Some bytes
    by true e = let same = rw e at h in cc
    by false e = let refused = rw e at h in cc

-- each of these is a model file
abbrev AreModelFiles : List File → Type 0
AreModelFiles [] = Unit {0}
AreModelFiles (file ∷ order) = IsModelFile file × AreModelFiles order

-- the files so far with these of a folder
abbrev filled : Files → List ℕ → ModelFiles → List File → ModelFiles
filled held folder made [] = made
filled held folder made (file ∷ order) = filled held folder (with_file made file (held (path_of folder file))) order

got-each : (held : Files) (folder : List ℕ) (number : ℕ) (made : ModelFiles) (order : List File) → AreModelFiles order
    → each (with_got held folder) number made order ≡ (each (with_checked (files_in held folder)) number tt order >>= λ done. Ok (filled held folder made order))
got-each held folder number made [] are = refl
got-each held folder number made (file ∷ order) are =
    by (admitted file (held (path_of folder file))) refl (λ more. got-each held folder (number + 1) more order are.1)
  where
    rest : ModelFiles → Result ModelFiles Refusal
    rest more = each (with_got held folder) (number + 1) more order

    by : (r : Result (Option (List ℕ)) Refusal) → admitted file (held (path_of folder file)) ≡ r
        → ((more : ModelFiles) → each (with_got held folder) (number + 1) more order ≡ (each (with_checked (files_in held folder)) (number + 1) tt order >>= λ done. Ok (filled held folder more order)))
        → each (with_got held folder) number made (file ∷ order) ≡ (each (with_checked (files_in held folder)) number tt (file ∷ order) >>= λ done. Ok (filled held folder made (file ∷ order)))
    by (Ok taken) e more = rw (file_of-files_in held folder file are.0, e, admitted-same file (held (path_of folder file)) taken e) (more (with_file made file (held (path_of folder file))))
    by (Err refusal) e more = rw (file_of-files_in held folder file are.0, e) refl

-- the files of a folder, one by one
pub all_got-fetch : (held : Files) (folder : List ℕ) → fetch_of held folder ≡ all_got held folder
all_got-fetch held folder = sym (got-each held folder 0 no_files model_files (tt, (tt, (tt, (tt, (tt, (tt, (tt, (tt, (tt, (tt, (tt, (tt, tt)))))))))))))
