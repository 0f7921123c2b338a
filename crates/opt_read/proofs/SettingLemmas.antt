-- Values that must all be there.
use Rattle.std.proofs.Common.{◌≡◌, ◌<◌, ◌≤◌, ◌+◌, ℕ, List, [], ◌∷◌, ◌++◌, map, drop, length, get_or, Option, Some, None, option_map, refl, ap, sym, ◌∙◌, append_assoc, append-nil, eq-eqb, ◌==◌, true}
use Rattle.std.proofs.lemmas.List.{drop_all, drop_more, length-map}
use Rattle.std.proofs.lemmas.Simd.{map-map}
use Rattle.std.proofs.Common.{Ok}
use Rattle.toml.specs.Data.{Data, Members, as_array}
use Rattle.toml.specs.View.{items_of, view}
use Rattle.toml.specs.declared.value.Value.{Value}
use Rattle.opt_read.specs.declared.key.Key.TheVariants as key
use Rattle.opt_read.specs.declared.limits.TheConstants.{DAY_LIMIT}
use Rattle.opt_read.specs.Settings.{all_there, day_list, days_setting, or_out_of_range, items, integer_between, required_value}

-- these, and then those that are still to come
abbrev pub then : {A : Type 0} → List A → Option (List A) → Option (List A)
then made rest = option_map (λ more. made ++ more) rest

pub then-none : {A : Type 0} (rest : Option (List A)) → then [] rest ≡ rest
then-none None = refl
then-none (Some more) = refl

then-one : {A : Type 0} (made : List A) (x : A) (rest : Option (List A)) → then made (option_map (λ xs. x ∷ xs) rest) ≡ then (made ++ x ∷ []) rest
then-one made x None = refl
then-one made x (Some more) = ap Some (sym (append_assoc made (x ∷ []) more))

-- one value that is there
pub there-more : {A V : Type 0} (f : V → Option A) (values : List V) (i : ℕ) (made : List A) (x : A) (d : V) → i < length values → f (get_or values i d) ≡ Some x
    → then made (all_there (map f (drop i values))) ≡ then (made ++ x ∷ []) (all_there (map f (drop (i + 1) values)))
there-more f values i made x d within there = rw (drop_more values i d within, there) (then-one made x (all_there (map f (drop (i + 1) values))))

-- one that is not
pub there-not : {A V : Type 0} (f : V → Option A) (values : List V) (i : ℕ) (made : List A) (d : V) → i < length values → f (get_or values i d) ≡ None
    → then made (all_there (map f (drop i values))) ≡ None
there-not f values i made d within lacks = rw (drop_more values i d within, lacks)

-- none is left
pub there-end : {A V : Type 0} (f : V → Option A) (values : List V) (i : ℕ) (made : List A) → length values ≤ i → then made (all_there (map f (drop i values))) ≡ Some made
there-end f values i made past = rw (drop_all i values past) (ap Some (append-nil made))

-- an array has as many items as the list that it is made from
items-of : (values : List Data) → items (items_of values) ≡ values
items-of [] = refl
items-of (value ∷ values) = ap (λ more. value ∷ more) (items-of values)

-- the days of an array of the right length
pub day_list-is : (months : ℕ) (values : List Value) → length values ≡ months → day_list months (map view values) ≡ all_there (map (λ value. integer_between 0 DAY_LIMIT (view value)) values)
day_list-is months values same =
    let fits : (length (map view values) == months) ≡ true = eq-eqb _ _ (length-map values view ∙ same) in
    rw fits (ap all_there (map-map (integer_between 0 DAY_LIMIT) view values))

-- the days where an array stands
pub days_setting-is : (entries : Members) (months : ℕ) (value : Data) (values : List Data) → required_value entries key.Days ≡ Ok value → Some (items_of values) ≡ as_array value
    → days_setting entries months ≡ or_out_of_range key.Days (day_list months values)
days_setting-is entries months value values there array = rw (there, ← array, items-of values)
