-- Names that are written are found among the names of the tables.
use Rattle.std.proofs.Common.{◌≡◌, ◌<◌, ◌≤◌, ◌==◌, ℕ, Bool, false, List, map, length, get_or, count_by, position, bytes_eq, Some, Ok, refl, ap, sym, subst, ◌∙◌, arith, nat_lt, le-ltb}
use Rattle.std.specs.Prelude.{slice_get}
use Rattle.std.specs.Option.{option_map_or}
use Rattle.std.proofs.lemmas.Bool.{false_from_ne_true, eqb-true}
use Rattle.std.proofs.lemmas.Option.{slice_get-get_or}
use mathlib.Core.Path.{fun_ext}
use Rattle.opt_network.proofs.Lookups.{position-once}
use Rattle.opt_tables.specs.Records.{Record, text_in}
use Rattle.opt_tables.proofs.Lists.{position-seen}
use Rattle.opt_tables.specs.Facts.{IsCleanName}
use Rattle.opt_report.specs.Subjects.{named_in}
use Rattle.opt_report.proofs.NameLists.{same_way, itself}

-- what is said of a record that is there
pub there : {A B : Type 0} (rs : List A) (i : ℕ) (d : A) (f : A → B) (e : B) → i < length rs → option_map_or f (slice_get rs i) e ≡ f (get_or rs i d)
there rs i d f e h = ap (λ o. option_map_or f o e) (slice_get-get_or rs i d h)

-- the name of a record is found at its number
pub name_found : {R : Type 0} (name_of : R → List ℕ) (rs : List R) (i : ℕ) (d : R) → i < length rs → ((name : List ℕ) → count_by (λ r. bytes_eq (name_of r) name) rs ≤ 1)
    → position (bytes_eq (name_of (get_or rs i d))) (map name_of rs) ≡ Some i
name_found {R = R} name_of rs i d within once =
    let name : List ℕ = name_of (get_or rs i d) in
    let same : (λ r. bytes_eq (name_of r) name) ≡ (λ r. bytes_eq name (name_of r)) = fun_ext (λ r. same_way (name_of r) name) in
    sym (position-seen (λ r. bytes_eq name (name_of r)) (bytes_eq name) name_of (λ r. refl) rs)
    ∙ position-once (λ r. bytes_eq name (name_of r)) rs i (get_or rs i d) (slice_get-get_or rs i d within) (itself name)
    (subst (λ (p : R → Bool). count_by p rs ≤ 1) same (once name))

-- a name in a column is the number of its record
pub named_is : (row : Record) (column : ℕ) (names : List (List ℕ)) (name : List ℕ) (i : ℕ) → text_in row column ≡ name → IsCleanName name
    → position (bytes_eq name) names ≡ Some i → named_in row column names ≡ Ok i
named_is row column names name i is clean found =
    let some : (length name == 0) ≡ false = false_from_ne_true (length name == 0) (λ e. absurd (omega (arith, eqb-true (length name) 0 e, clean.some))) in
    let short : nat_lt 64 (length name) ≡ false = le-ltb 64 (length name) clean.short in
    rw (is, some, short, found) refl
