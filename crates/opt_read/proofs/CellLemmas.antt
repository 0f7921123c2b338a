-- The fields of records that stand one after the other.
use Rattle.std.proofs.Common.{◌≡◌, ◌<◌, ◌≤◌, ◌+◌, ◌-◌, ◌*◌, ℕ, zero, suc, List, [], ◌∷◌, ◌++◌, map, take, drop, length, get_or, refl, ap, ap₂, sym, ◌∙◌, arith, nat_lt, ◌⊎◌, inl, inr, true}
use Rattle.std.proofs.lemmas.List.{get_or-take, get_or-drop, get_or_past, length-take, length-append}
use Rattle.std.proofs.lemmas.Bool.Decides.{nat_tests}
use Rattle.std.proofs.Math.Seq.{take-append_seam, drop-append_seam}
use Rattle.std.specs.List.{flat_map}
use Rattle.opt_read.specs.Cells.{records_of}
use Rattle.opt_read.specs.Grid.{field_at}

pub length-records_of : (width count : ℕ) (fields : List (List ℕ)) → length (records_of width count fields) ≡ count
length-records_of width zero fields = refl
length-records_of width (suc count) fields = ap suc (length-records_of width count (drop width fields))

-- a field of a record stands among all fields after those of the records before it
at-record : (width count : ℕ) (fields : List (List ℕ)) (index column : ℕ) → index < count → column < width
    → get_or (get_or (records_of width count fields) index []) column [] ≡ get_or fields (index * width + column) []
at-record width zero fields index column inside within = absurd (omega arith)
at-record width (suc count) fields zero column inside within = get_or-take width fields column [] within ∙ ap (λ i. get_or fields i []) (grind arith)
at-record width (suc count) fields (suc index) column inside within =
    at-record width count (drop width fields) index column (omega arith) within
    ∙ (get_or-drop width fields (index * width + column) [] ∙ ap (λ i. get_or fields i []) (grind arith))

-- a record has no more fields than this
short-record : (width count : ℕ) (fields : List (List ℕ)) (index : ℕ) → length (get_or (records_of width count fields) index []) ≤ width
short-record width zero fields index = omega arith
short-record width (suc count) fields zero = omega (arith, length-take width fields)
short-record width (suc count) fields (suc index) = short-record width count (drop width fields) index

numbered-record : (rows : List (List (List ℕ))) (number index column : ℕ) → number ≡ index + 1 → field_at rows number column ≡ get_or (get_or rows index []) column []
numbered-record rows number index column is =
    let before : number - 1 ≡ index = omega arith in
    let some : nat_lt 0 number ≡ true = grind (arith, nat_tests) in
    rw (some, before)

pub field-inside : (width count : ℕ) (fields : List (List ℕ)) (number index column : ℕ) → number ≡ index + 1 → index < count → column < width
    → field_at (records_of width count fields) number column ≡ get_or fields (index * width + column) []
field-inside width count fields number index column is inside within =
    numbered-record (records_of width count fields) number index column is ∙ at-record width count fields index column inside within

pub field-past : (width count : ℕ) (fields : List (List ℕ)) (number index column : ℕ) → number ≡ index + 1 → (count ≤ index) ⊎ (width ≤ column)
    → field_at (records_of width count fields) number column ≡ []
field-past width count fields number index column is (inl past) =
    numbered-record (records_of width count fields) number index column is
    ∙ ap (λ (record_fields : List (List ℕ)). get_or record_fields column []) (get_or_past (records_of width count fields) index [] (omega (arith, length-records_of width count fields)))
field-past width count fields number index column is (inr past) =
    numbered-record (records_of width count fields) number index column is
    ∙ get_or_past (get_or (records_of width count fields) index []) column [] (omega (arith, short-record width count fields index))

-- a field's place among all fields is below their number
pub place-within : (width count index column : ℕ) → index < count → column < width → index * width + column < count * width
place-within width zero index column inside within = absurd (omega arith)
place-within width (suc count) zero column inside within = grind arith
place-within width (suc count) (suc index) column inside within = grind (arith, place-within width count index column (omega arith) within)

-- records of the same width, put one after the other, make themselves
pub records_of-flat : {X : Type 0} (f : X → List (List ℕ)) (width : ℕ) (xs : List X) → ((x : X) → length (f x) ≡ width) → records_of width (length xs) (flat_map f xs) ≡ map f xs
records_of-flat f width [] even = refl
records_of-flat f width (x ∷ xs) even =
    let front : take width (f x ++ flat_map f xs) ≡ f x = ap (λ n. take n (f x ++ flat_map f xs)) (sym (even x)) ∙ take-append_seam (f x) (flat_map f xs) in
    let rest : drop width (f x ++ flat_map f xs) ≡ flat_map f xs = ap (λ n. drop n (f x ++ flat_map f xs)) (sym (even x)) ∙ drop-append_seam (f x) (flat_map f xs) in
    ap₂ (λ (first : List (List ℕ)) (more : List (List (List ℕ))). first ∷ more) front (ap (λ fields. records_of width (length xs) fields) rest ∙ records_of-flat f width xs even)

pub length-flat : {X : Type 0} (f : X → List (List ℕ)) (width : ℕ) (xs : List X) → ((x : X) → length (f x) ≡ width) → length (flat_map f xs) ≡ length xs * width
length-flat f width [] even = grind arith
length-flat f width (x ∷ xs) even = grind (arith, length-append (f x) (flat_map f xs), even x, length-flat f width xs even)
