-- Files that are got one after the other.
use Rattle.std.proofs.Common.{◌≡◌, ℕ, ◌+◌, ◌<◌, List, [], ◌∷◌, ◌++◌, length, get_or, take, Option, Some, Result, Ok, Err, Contains, inl, inr, refl, sym, ap, ◌∙◌, subst, arith, add-one}
use Rattle.std.specs.Prelude.{IfOk}
use Rattle.std.proofs.Math.Seq.{take-suc}
use Rattle.std.proofs.lemmas.List.Elements.{Contains-get_or}
use Rattle.opt_base.specs.declared.refusal.File.{File}
use Rattle.opt_base.specs.declared.refusal.File.TheVariants.{Settings, Commodities, Groups, Nutrients, Contents, Places, Offers, Arcs, Persons, Stock, Baskets, Needs}
use Rattle.opt_base.specs.declared.refusal.Refusal.{Refusal}
use Rattle.opt_base.specs.Answers.{◌>>=◌, each}
use Rattle.opt_tables.specs.Files.{ModelFiles, no_files, model_files, file_of, with_file, admitted, checked, with_checked, all_checked}
use Rattle.opt_tables.specs.Fetched.{IsGot, GetsEach, RefusesOne}
use Rattle.opt_tables.specs.declared.fault.FetchFault.{FetchFault}
use Rattle.opt_tables.specs.declared.fault.FetchFault.TheVariants.{Refused, Outside, OutOfMemory}

-- one more file
GetsEach-push : (order : List File) (old mid : ModelFiles) (file : File) (bytes : Option (List ℕ)) → GetsEach order old mid → admitted file bytes ≡ Ok bytes → GetsEach (order ++ file ∷ []) old (with_file mid file bytes)
GetsEach-push [] old mid file bytes got is = (bytes, is, ap (λ (files : ModelFiles). with_file files file bytes) got)
GetsEach-push (first ∷ order) old mid file bytes got is = (got.0, got.1, GetsEach-push order (with_file old first got.0) mid file bytes got.2 is)

-- the same of the files so far
pub GetsEach-next : (order : List File) (i : ℕ) (d : File) (old mid : ModelFiles) (bytes : Option (List ℕ)) → i < length order → GetsEach (take i order) old mid → admitted (get_or order i d) bytes ≡ Ok bytes
    → GetsEach (take (i + 1) order) old (with_file mid (get_or order i d) bytes)
GetsEach-next order i d old mid bytes within got is =
    let split : take (i + 1) order ≡ take i order ++ get_or order i d ∷ [] = ap (λ n. take n order) (add-one i) ∙ take-suc order i d within in
    subst (λ (files : List File). GetsEach files old (with_file mid (get_or order i d) bytes)) (sym split) (GetsEach-push (take i order) old mid (get_or order i d) bytes got is)

-- a file of a list that is refused is one of the list
pub RefusesOne-in : (order : List File) (i : ℕ) (d : File) (fault : FetchFault) → i < length order → RefusesOne (get_or order i d ∷ []) fault → RefusesOne order fault
RefusesOne-in order i d (Refused refusal) within (file, here, is) =
    (file, subst (Contains order) (alone file (get_or order i d) here) (Contains-get_or order i d within), is)
  where
    alone : (a b : File) → Contains (b ∷ []) a → b ≡ a
    alone a b (k, inside, same) = let first : k ≡ 0 = omega arith in subst (λ n. get_or (b ∷ []) n a ≡ a) first same
RefusesOne-in order i d Outside within one = tt
RefusesOne-in order i d OutOfMemory within one = tt

checked-admitted : (file : File) (bytes : Option (List ℕ)) → admitted file bytes ≡ Ok bytes → checked file bytes ≡ Ok tt
checked-admitted file bytes e = ap (λ (read : Result (Option (List ℕ)) Refusal). read >>= λ held. Ok tt) e

-- each of these files is admitted
abbrev AreChecked : ModelFiles → List File → Type 0
AreChecked files [] = Unit {0}
AreChecked files (file ∷ order) = (checked file (file_of files file) ≡ Ok tt) × AreChecked files order

each-checked : (files : ModelFiles) (number : ℕ) (order : List File) → AreChecked files order → each (with_checked files) number tt order ≡ Ok tt
each-checked files number [] are = refl
each-checked files number (file ∷ order) are =
    ap (λ (read : Result (Unit {0}) Refusal). read >>= λ more. each (with_checked files) (number + 1) more order) are.0 ∙ each-checked files (number + 1) order are.1

-- files that were got one after the other are admitted
pub all_admitted : (files : ModelFiles) → GetsEach model_files no_files files → all_checked files ≡ Ok tt
all_admitted files got0 =
    let got1 = got0.2 in
    let got2 = got1.2 in
    let got3 = got2.2 in
    let got4 = got3.2 in
    let got5 = got4.2 in
    let got6 = got5.2 in
    let got7 = got6.2 in
    let got8 = got7.2 in
    let got9 = got8.2 in
    let got10 = got9.2 in
    let got11 = got10.2 in
    subst (λ (made : ModelFiles). all_checked made ≡ Ok tt) got11.2 (each-checked (record { settings = got0.0; commodities = got1.0; groups = got2.0; nutrients = got3.0; contents = got4.0; places = got5.0; offers = got6.0; arcs = got7.0; persons = got8.0; stock = got9.0; baskets = got10.0; needs = got11.0 }) 0 model_files
    (checked-admitted Settings got0.0 got0.1, (checked-admitted Commodities got1.0 got1.1, (checked-admitted Groups got2.0 got2.1, (checked-admitted Nutrients got3.0 got3.1, (checked-admitted Contents got4.0 got4.1, (checked-admitted Places got5.0 got5.1, (checked-admitted Offers got6.0 got6.1, (checked-admitted Arcs got7.0 got7.1, (checked-admitted Persons got8.0 got8.1, (checked-admitted Stock got9.0 got9.1, (checked-admitted Baskets got10.0 got10.1, (checked-admitted Needs got11.0 got11.1, tt)))))))))))))

pub admitted_if : (result : Result ModelFiles FetchFault) → IfOk result (GetsEach model_files no_files) → IfOk result (λ files. all_checked files ≡ Ok tt)
admitted_if (Ok files) got = all_admitted files got
admitted_if (Err fault) got = tt

-- a fault is one whatever would have been got
pub IsGot-err : {X Y Z : Type 0} (view : X → Y) (other : Z → Y) (fault : FetchFault) (read : Result Y Refusal) → IsGot view (Err fault) read → IsGot other (Err fault) read
IsGot-err view other (Refused refusal) read got = got
IsGot-err view other Outside read got = tt
IsGot-err view other OutOfMemory read got = tt
