-- What is known of a cell that is read.
use Rattle.std.proofs.Common.{◌≡◌, ◌≤◌, ℕ, zero, suc, ◌+◌, ◌-◌, ◌<◌, Bool, true, false, cond, List, [], length, get_or, nat_lt, nat_le, IsUtf8, Option, Some, None, Result, Ok, Err, refl, sym, ap, ◌∙◌, subst, arith, ℤ, pos, ◌≤ℤ◌, eq-eqb}
use Rattle.std.specs.Prelude.{◌&&◌, ◌==◌, position, bytes_eq, IfSome}
use Rattle.std.specs.Option.{ok_or, option_map}
use Rattle.std.specs.Str.Parse.{digits_value}
use Rattle.std.proofs.lemmas.Bool.{and_parts, and_from, both_ways, leb-true, ltb-false, cond-true, lt-ltb}
use Rattle.std.proofs.lemmas.Int.{ints}
use Rattle.std.proofs.lemmas.List.Quantifiers.{position-Some}
use Rattle.std.proofs.lemmas.Slice.Eq.{bytes_eq-Decides}
use Rattle.opt_base.specs.declared.refusal.Kind.TheVariants.{EmptyName, NameTooLong, BadNumber, OutOfRange, UnknownName}
use Rattle.opt_base.specs.declared.refusal.Refusal.{Refusal}
use Rattle.opt_base.specs.Answers.{◌>>=◌}
use Rattle.opt_base.proofs.Made.{bind_ok, when_ok, unless_ok}
use Rattle.opt_read.specs.Grid.{record_at, without_blanks}
use Rattle.opt_tables.specs.Keys.{Known, Name, Names, NameInMonth, NamesInMonth, are_same}
use Rattle.opt_tables.specs.Records.{Record, refused_at, text_in, optional_name_in, name_in, is_number, number_in, optional_number_in, reference_in, optional_reference_in}
use Rattle.opt_tables.specs.Facts.{IsFrom, IsCleanName}

-- text without a space or a tab at its ends
pub record IsCleanText (field : List ℕ) : Type 0 where
  pub text : IsUtf8 field
  pub stripped : without_blanks field ≡ field

-- what is not 0 is at least 1
pub at_least_one : (n : ℕ) → (n == 0) ≡ false → 1 ≤ n
at_least_one zero none = absurd (both_ways (zero == 0) none refl)
at_least_one (suc n) none = omega arith

-- where the text of a column is clean, a name that is read there is too
pub clean_name : {L : Type 0} (row : Record) (column : ℕ) (more : List ℕ → Result L Refusal) (line : L) → IsCleanText (text_in row column)
    → (name_in row column >>= more) ≡ Ok line → IsCleanName (text_in row column)
clean_name row column more line clean e =
    let size : ℕ = length (text_in row column) in
    let name = bind_ok (name_in row column) more line e in
    let some = unless_ok (size == 0) (optional_name_in row column) (refused_at row column EmptyName) name.0 name.1 in
    let short = unless_ok (nat_lt 64 size) (Ok (text_in row column)) (refused_at row column NameTooLong) name.0 some.1 in
    record { text = clean.text; stripped = clean.stripped; some = at_least_one size some.0; short = ltb-false 64 size short.0 }

-- a number from low to high
pub record IsBetween (low high n : ℕ) : Type 0 where
  pub above : low ≤ n
  pub below : n ≤ high

-- a number that is read is in its range
pub number_between : (row : Record) (column low high n : ℕ) → number_in row column low high ≡ Ok n → IsBetween low high n
number_between row column low high n e =
    let value : ℕ = digits_value 10 (text_in row column) in
    let digits = when_ok (is_number (text_in row column)) _ (refused_at row column BadNumber) n e in
    let within = when_ok (nat_le low value && nat_le value high) (Ok value) (refused_at row column OutOfRange) n digits.1 in
    let both = and_parts (nat_le low value) (nat_le value high) within.0 in
    let same : value ≡ n = cc (within.1) in
    subst (IsBetween low high) same (record { above = leb-true low value both.0; below = leb-true value high both.1 })

-- the same of a whole number that may have a sign
pub from_between : (low high n : ℕ) → IsBetween low high n → IsFrom (pos low) (pos high) (pos n)
from_between low high n is = let above : low ≤ n = is.above in let below : n ≤ high = is.below in record { above = omega (arith, ints); below = omega (arith, ints) }

-- a number that is read, as one that may have a sign
pub number_from : (row : Record) (column low high n : ℕ) → number_in row column low high ≡ Ok n → IsFrom (pos low) (pos high) (pos n)
number_from row column low high n e = from_between low high n (number_between row column low high n e)

-- the same of a number that may be missing
pub optional_number_from : (row : Record) (column low high : ℕ) (n : Option ℕ) → optional_number_in row column low high ≡ Ok n → IfSome (option_map pos n) (IsFrom (pos low) (pos high))
optional_number_from row column low high n e = by (length (text_in row column) == 0) e
  where
    some : (m : ℕ) → number_in row column low high ≡ Ok m → Some m ≡ n → IfSome (option_map pos n) (IsFrom (pos low) (pos high))
    some m read same = subst (λ o. IfSome (option_map pos o) (IsFrom (pos low) (pos high))) same (number_from row column low high m read)

    by : (empty : Bool) → cond empty (Ok None) (number_in row column low high >>= λ m. Ok (Some m)) ≡ Ok n → IfSome (option_map pos n) (IsFrom (pos low) (pos high))
    by true f = let same : None ≡ n = cc in subst (λ o. IfSome (option_map pos o) (IsFrom (pos low) (pos high))) same tt
    by false f = let read = bind_ok (number_in row column low high) (λ m. Ok (Some m)) n f in some read.0 read.1 (let same : Some read.0 ≡ n = cc (read.2) in same)

was_there : {A E : Type 0} (found : Option A) (fault : E) (x : A) → ok_or found fault ≡ Ok x → found ≡ Some x
was_there None fault x e = cc
was_there (Some y) fault x e = let same : y ≡ x = cc in ap Some same

-- the number of a record that is named, among those that are known by their names
pub record IsReference (keys : List Known) (name : List ℕ) (number : ℕ) : Type 0 where
  pub there : number < length keys
  pub is : (d : Known) → are_same (Name name) (get_or keys number d) ≡ true

pub reference_is : (row : Record) (column : ℕ) (keys : List Known) (number : ℕ) → reference_in row column keys ≡ Ok number → IsReference keys (text_in row column) number
reference_is row column keys number e =
    let found = was_there (position (are_same (Name (text_in row column))) keys) (refused_at row column UnknownName) number e in
    record {
      there = (position-Some (are_same (Name (text_in row column))) keys number (Name []) found).0;
      is = λ d. (position-Some (are_same (Name (text_in row column))) keys number d found).1;
    }

-- a reference that may be missing is within the keys where there is one
pub optional_reference_is : (row : Record) (column : ℕ) (keys : List Known) (number : Option ℕ) → optional_reference_in row column keys ≡ Ok number → IfSome number (λ n. n < length keys)
optional_reference_is row column keys number e = by (length (text_in row column) == 0) e
  where
    by : (empty : Bool) → cond empty (Ok None) (reference_in row column keys >>= λ n. Ok (Some n)) ≡ Ok number → IfSome number (λ n. n < length keys)
    by true f = let same : None ≡ number = cc in subst (λ o. IfSome o (λ n. n < length keys)) same tt
    by false f =
        let read = bind_ok (reference_in row column keys) (λ n. Ok (Some n)) number f in
        let same : Some read.0 ≡ number = cc (read.2) in
        subst (λ o. IfSome o (λ n. n < length keys)) same (reference_is row column keys read.0 read.1).there

-- a name that is the same as a key is that key
name_is : (name : List ℕ) (key : Known) → are_same (Name name) key ≡ true → key ≡ Name name
name_is name (Name other) e = ap Name (sym ((bytes_eq-Decides name other).0 e))
name_is name (Names first second) e = cc
name_is name (NameInMonth other month) e = cc
name_is name (NamesInMonth first second month) e = cc

-- two names that are the same as one key are one name
one_name : (first second : List ℕ) (key : Known) → are_same (Name first) key ≡ true → are_same (Name second) key ≡ true → first ≡ second
one_name first second key e f = let same : Name first ≡ Name second = sym (name_is first key e) ∙ name_is second key f in cc

-- two references to one record are by one name
pub one_reference : (keys : List Known) (first second : List ℕ) (m n : ℕ) → m ≡ n → IsReference keys first m → IsReference keys second n → first ≡ second
one_reference keys first second m n same a b =
    one_name first second (get_or keys m (Name [])) (a.is (Name []))
    (subst (λ k. are_same (Name second) (get_or keys k (Name [])) ≡ true) (sym same) (b.is (Name [])))

itself : (name : List ℕ) → bytes_eq name name ≡ true
itself name = (bytes_eq-Decides name name).1 refl

-- a key is the same as itself
pub same_as_itself : (key : Known) → are_same key key ≡ true
same_as_itself (Name name) = itself name
same_as_itself (Names first second) = and_from (bytes_eq first first) (bytes_eq second second) (itself first) (itself second)
same_as_itself (NameInMonth name month) = and_from (bytes_eq name name) (month == month) (itself name) (eq-eqb month month refl)
same_as_itself (NamesInMonth first second month) =
    and_from (bytes_eq first first) (bytes_eq second second && (month == month)) (itself first) (and_from (bytes_eq second second) (month == month) (itself second) (eq-eqb month month refl))

-- keys that are one are the same
pub same_keys : (key other : Known) → key ≡ other → are_same other key ≡ true
same_keys key other same = subst (λ k. are_same k key ≡ true) same (same_as_itself key)

-- the fields of a record by its number, from 1
pub record_is : (rows : List (List (List ℕ))) (k : ℕ) → record_at rows (1 + k) ≡ get_or rows k []
record_is rows k =
    let before : 1 + k - 1 ≡ k = omega arith in
    cond-true _ _ [] (lt-ltb 0 (1 + k) (omega arith)) ∙ ap (λ n. get_or rows n []) before
