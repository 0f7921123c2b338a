-- Files that are not refused as wholes are small.
use Rattle.std.proofs.Common.{◌≡◌, ℕ, ◌+◌, ◌^◌, ◌<◌, ◌≤◌, Bool, true, false, List, [], ◌∷◌, length, Option, Some, None, unwrap_or, Result, Ok, Err, nat_le, OnOk, refl, sym, arith, lit≤}
use Rattle.std.proofs.lemmas.Bool.{leb-true}
use Rattle.opt_base.specs.declared.refusal.Kind.TheVariants.{FileTooBig}
use Rattle.opt_base.specs.declared.refusal.File.{File}
use Rattle.opt_base.specs.declared.refusal.File.TheVariants.{Settings, Commodities, Groups, Nutrients, Contents, Places, Offers, Arcs, Persons, Stock, Baskets, Needs, Model, Plan, Certificate, Edits, Executed}
use Rattle.opt_base.specs.declared.refusal.Refusal.{Refusal}
use Rattle.opt_base.specs.Answers.{each}
use Rattle.opt_base.specs.Refusals.{refusal_of_file}
use Rattle.opt_tables.specs.Files.{ModelFiles, file_of, bytes_of, limit_of, checked, with_checked, all_checked, model_files}

limit_le : (file : File) → limit_of file ≤ 2 ^ 24
limit_le Settings = lit≤ tt
limit_le Commodities = lit≤ tt
limit_le Nutrients = lit≤ tt
limit_le Contents = lit≤ tt
limit_le Baskets = lit≤ tt
limit_le Needs = lit≤ tt
limit_le Groups = lit≤ tt
limit_le Places = lit≤ tt
limit_le Offers = lit≤ tt
limit_le Arcs = lit≤ tt
limit_le Persons = lit≤ tt
limit_le Stock = lit≤ tt
limit_le Model = lit≤ tt
limit_le Plan = lit≤ tt
limit_le Certificate = lit≤ tt
limit_le Edits = lit≤ tt
limit_le Executed = lit≤ tt

checked_small : (file : File) (bytes : Option (List ℕ)) → checked file bytes ≡ Ok tt → length (unwrap_or bytes []) ≤ 2 ^ 24
checked_small file None h = lit≤ tt
checked_small file (Some bytes) h = by (nat_le (length bytes) (limit_of file)) refl
  where
    by : (b : Bool) → nat_le (length bytes) (limit_of file) ≡ b → length bytes ≤ 2 ^ 24
    by true e = omega (arith, leb-true (length bytes) (limit_of file) e, limit_le file)
    by false e = let refused : Err (refusal_of_file file FileTooBig) ≡ Ok tt = rw e at h in cc

-- each of these files is small
abbrev AreSmall : ModelFiles → List File → Type 0
AreSmall files [] = Unit {0}
AreSmall files (file ∷ order) = (length (bytes_of files file) ≤ 2 ^ 24) × AreSmall files order

checked_each : (files : ModelFiles) (number : ℕ) (order : List File) → each (with_checked files) number tt order ≡ Ok tt → AreSmall files order
checked_each files number [] h = tt
checked_each files number (file ∷ order) h = by (checked file (file_of files file)) refl (checked_each files (number + 1) order)
  where
    by : (r : Result (Unit {0}) Refusal) → checked file (file_of files file) ≡ r → (each (with_checked files) (number + 1) tt order ≡ Ok tt → AreSmall files order) → AreSmall files (file ∷ order)
    by (Ok done) e rest = (checked_small file (file_of files file) e, rest (rw e at h))
    by (Err refusal) e rest = let refused : Err refusal ≡ Ok tt = rw e at h in cc

-- every file is small, where none is refused as a whole
pub checked_files_small : (files : ModelFiles) → all_checked files ≡ Ok tt → (file : File) → length (bytes_of files file) ≤ 2 ^ 24
checked_files_small files h = of_each (checked_each files 0 model_files h)
  where
    of_each : AreSmall files model_files → (file : File) → length (bytes_of files file) ≤ 2 ^ 24
    of_each s Settings = s.0
    of_each s Commodities = s.1.0
    of_each s Groups = s.1.1.0
    of_each s Nutrients = s.1.1.1.0
    of_each s Contents = s.1.1.1.1.0
    of_each s Places = s.1.1.1.1.1.0
    of_each s Offers = s.1.1.1.1.1.1.0
    of_each s Arcs = s.1.1.1.1.1.1.1.0
    of_each s Persons = s.1.1.1.1.1.1.1.1.0
    of_each s Stock = s.1.1.1.1.1.1.1.1.1.0
    of_each s Baskets = s.1.1.1.1.1.1.1.1.1.1.0
    of_each s Needs = s.1.1.1.1.1.1.1.1.1.1.1.0
    of_each s Model = lit≤ tt
    of_each s Plan = lit≤ tt
    of_each s Certificate = lit≤ tt
    of_each s Edits = lit≤ tt
    of_each s Executed = lit≤ tt

pub small-from_checked : (files : ModelFiles) (result : Result (Unit {0}) Refusal) → result ≡ all_checked files → OnOk result ((file : File) → length (bytes_of files file) < 2 ^ 32)
small-from_checked files (Ok done) same = λ file. let small : length (bytes_of files file) ≤ 2 ^ 24 = checked_files_small files (sym same) file in omega arith
small-from_checked files (Err refusal) same = tt
