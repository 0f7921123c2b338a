-- The fields, places and records of a table.
use Rattle.std.proofs.Common.{◌≡◌, ◌<◌, ◌+◌, ℕ, zero, suc, Bool, List, [], ◌∷◌, ◌++◌, map, take, drop, length, get_or, slice_index_or, Option, Some, None, Result, Ok, Err, refl, ap, ap₂, sym, ◌∙◌, arith}
use Rattle.std.proofs.lemmas.List.{get_or-map, take_more, length-map}
use Rattle.std.proofs.lemmas.List.Folds.{fold-map}
use Rattle.std.proofs.lemmas.Bool.Decides.{nat_tests}
use Rattle.std.specs.Borrow.{Bor}
use Rattle.std.specs.Str.{bytes_eq}
use Rattle.std.specs.Prelude.{◌≢◌, cond, count_by, not, position}
use Rattle.std.specs.List.{prefix_len, take-map}
use Rattle.csv.specs.Records.{field_at}
use Rattle.opt_base.specs.Answers.{Fails, each, ◌>>=◌}
use Rattle.opt_base.proofs.Each.{each_next}
use Rattle.opt_base.specs.declared.refusal.ModelFault.{ModelFault}
use Rattle.opt_base.specs.declared.refusal.ModelFault.TheVariants.{Refused, OutOfMemory}
use Rattle.opt_base.specs.declared.refusal.Refusal.{Refusal}
use Rattle.opt_base.specs.declared.refusal.File.{File}
use Rattle.opt_base.specs.declared.refusal.Kind.TheVariants.{ColumnMissing, ColumnTwice}
use Rattle.opt_base.specs.Refusals.{refusal_at}
use Rattle.opt_read.specs.Grid.{place_of, sole_place, without_blanks}

-- the field that csv finds in a column
pub field-found : (fields : List (List ℕ)) (column : ℕ) (field : List ℕ) → Some field ≡ field_at fields column → without_blanks field ≡ slice_index_or (map without_blanks fields) column []
unfolding field_at
field-found [] column field e = cc
field-found (f ∷ fields) zero field e = let same : field ≡ f = cc in ap without_blanks same
field-found (f ∷ fields) (suc column) field e = field-found fields column field e

pub field-lacking : (fields : List (List ℕ)) (column : ℕ) → None ≡ field_at fields column → [] ≡ slice_index_or (map without_blanks fields) column []
unfolding field_at
field-lacking [] column e = refl
field-lacking (f ∷ fields) zero e = cc
field-lacking (f ∷ fields) (suc column) e = field-lacking fields column e

-- one element more of a list that is seen through f
pub map-take_more : {X Y : Type 0} (f : X → Y) (xs : List X) (i : ℕ) (d : Y) → i < length xs → map f (take (i + 1) xs) ≡ map f (take i xs) ++ get_or (map f xs) i d ∷ []
map-take_more f xs i d within =
    sym (take-map f (i + 1) xs) ∙ (take_more (map f xs) i d (omega (arith, length-map xs f)) ∙ ap (λ front. front ++ get_or (map f xs) i d ∷ []) (take-map f i xs))

-- a search in a list that is seen through f
prefix_len-map : {X Y : Type 0} (f : X → Y) (p : Y → Bool) (xs : List X) → prefix_len p (map f xs) ≡ prefix_len (λ x. p (f x)) xs
prefix_len-map f p [] = refl
prefix_len-map f p (x ∷ xs) = rw (prefix_len-map f p xs)

pub position-map : {X Y : Type 0} (f : X → Y) (p : Y → Bool) (xs : List X) → position p (map f xs) ≡ position (λ x. p (f x)) xs
position-map f p xs = rw (prefix_len-map f (λ y. not (p y)) xs, length-map xs f)

pub count_by-map : {X Y : Type 0} (f : X → Y) (p : Y → Bool) (xs : List X) → count_by p (map f xs) ≡ count_by (λ x. p (f x)) xs
count_by-map f p xs = fold-map (λ n y. n + cond (p y) 1 0) f 0 xs

-- a name's place in a header that is lent
place-lent : (file : File) (fields : List (Bor (List ℕ))) (column : ℕ) (name : List ℕ)
    → place_of file (map (λ field. field.now) fields) column name ≡ sole_place file column (position (λ field. bytes_eq field.now name) fields) (count_by (λ field. bytes_eq field.now name) fields)
place-lent file fields column name =
    ap₂ (sole_place file column) (position-map (λ (field : Bor (List ℕ)). field.now) (λ field. bytes_eq field name) fields) (count_by-map (λ (field : Bor (List ℕ)). field.now) (λ field. bytes_eq field name) fields)

pub place-missing : (file : File) (fields : List (Bor (List ℕ))) (column : ℕ) (name : List ℕ) → None ≡ position (λ field. bytes_eq field.now name) fields
    → place_of file (map (λ field. field.now) fields) column name ≡ Err (refusal_at file 0 column ColumnMissing)
place-missing file fields column name none = place-lent file fields column name ∙ ap (λ (o : Option ℕ). sole_place file column o (count_by (λ field. bytes_eq field.now name) fields)) (sym none)

sole-once : (file : File) (column place times : ℕ) → times ≡ 1 → sole_place file column (Some place) times ≡ Ok place
sole-once file column place times once = rw once

sole-twice : (file : File) (column place times : ℕ) → times ≢ 1 → sole_place file column (Some place) times ≡ Err (refusal_at file 0 column ColumnTwice)
sole-twice file column place times twice = grind (arith, nat_tests)

place-at : (file : File) (fields : List (Bor (List ℕ))) (column : ℕ) (name : List ℕ) (place times : ℕ) → Some place ≡ position (λ field. bytes_eq field.now name) fields
    → times ≡ count_by (λ field. bytes_eq field.now name) fields → place_of file (map (λ field. field.now) fields) column name ≡ sole_place file column (Some place) times
place-at file fields column name place times first counted = place-lent file fields column name ∙ sym (ap₂ (sole_place file column) first counted)

pub place-once : (file : File) (fields : List (Bor (List ℕ))) (column : ℕ) (name : List ℕ) (place times : ℕ) → Some place ≡ position (λ field. bytes_eq field.now name) fields
    → times ≡ count_by (λ field. bytes_eq field.now name) fields → times ≡ 1 → place_of file (map (λ field. field.now) fields) column name ≡ Ok place
place-once file fields column name place times first counted once = place-at file fields column name place times first counted ∙ sole-once file column place times once

pub place-twice : (file : File) (fields : List (Bor (List ℕ))) (column : ℕ) (name : List ℕ) (place times : ℕ) → Some place ≡ position (λ field. bytes_eq field.now name) fields
    → times ≡ count_by (λ field. bytes_eq field.now name) fields → times ≢ 1 → place_of file (map (λ field. field.now) fields) column name ≡ Err (refusal_at file 0 column ColumnTwice)
place-twice file fields column name place times first counted twice = place-at file fields column name place times first counted ∙ sole-twice file column place times twice

-- one name more: what is left of the fold, where the name has a fault and where it has a place
abbrev with_place : File → List (List ℕ) → ℕ → List ℕ → List ℕ → Result (List ℕ) Refusal
with_place file header column name places = place_of file header column name >>= λ place. Ok (places ++ place ∷ [])

places-next : (file : File) (header : List (List ℕ)) (names : List (Bor (List ℕ))) (i : ℕ) (made : List ℕ) (d : Bor (List ℕ)) → i < length names
    → each (with_place file header) (i + 1) made (drop i (map (λ name. name.now) names))
    ≡ (place_of file header (i + 1) (get_or names i d).now >>= λ place. Ok (made ++ place ∷ [])) >>= λ more. each (with_place file header) (i + 1 + 1) more (drop (i + 1) (map (λ name. name.now) names))
places-next file header names i made d within =
    rw (← get_or-map (λ (name : Bor (List ℕ)). name.now) names i d [] within)
    (each_next (with_place file header) (i + 1) made (map (λ name. name.now) names) i [] (omega (arith, length-map names (λ (name : Bor (List ℕ)). name.now))))

pub places-fail : (file : File) (header : List (List ℕ)) (names : List (Bor (List ℕ))) (i : ℕ) (made : List ℕ) (d : Bor (List ℕ)) (read : Result (List ℕ) Refusal) (fault : ModelFault) → i < length names
    → each (with_place file header) (i + 1) made (drop i (map (λ name. name.now) names)) ≡ read
    → Fails fault (place_of file header (i + 1) (get_or names i d).now) → Fails fault read
places-fail file header names i made d read OutOfMemory within so_far fails = tt
places-fail file header names i made d read (Refused refusal) within so_far fails =
    let next = places-next file header names i made d within in
    sym so_far ∙ (rw fails at next)

pub places-on : (file : File) (header : List (List ℕ)) (names : List (Bor (List ℕ))) (i : ℕ) (made : List ℕ) (d : Bor (List ℕ)) (read : Result (List ℕ) Refusal) (place : ℕ) → i < length names
    → each (with_place file header) (i + 1) made (drop i (map (λ name. name.now) names)) ≡ read
    → place_of file header (i + 1) (get_or names i d).now ≡ Ok place
    → each (with_place file header) (i + 1 + 1) (made ++ place ∷ []) (drop (i + 1) (map (λ name. name.now) names)) ≡ read
places-on file header names i made d read place within so_far found =
    let next = places-next file header names i made d within in
    sym (rw found at next) ∙ so_far
