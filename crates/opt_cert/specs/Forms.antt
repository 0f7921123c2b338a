-- What the words of a line say, at its place in a certificate. Numbers may have any size here, and entries any order.
use Rattle.std.specs.Prelude.{ℕ, zero, suc, Bool, true, false, ◌&&◌, ◌==◌, if◌then◌else◌, List, [], ◌∷◌, length, Option, Some, None, ℤ, pos, codes}
use Rattle.std.specs.Option.{option_map, option_and_then}
use Rattle.std.specs.Str.{bytes_eq}
use Rattle.opt_base.specs.declared.verdict.Verdict.{Verdict}
use Rattle.opt_base.specs.declared.verdict.Verdict.TheVariants as verdict
use Rattle.opt_bound.specs.Multipliers.{Multipliers}
use Rattle.opt_cert.specs.declared.cert_line.CertLine.{CertLine}
use Rattle.opt_cert.specs.declared.cert_line.CertLine.TheVariants as line
use Rattle.opt_cert.specs.declared.place.Place.{Place}
use Rattle.opt_cert.specs.declared.place.Place.TheVariants as place
use Rattle.opt_cert.specs.Numbers.{pieces, numeral, signed_numeral, plain_numeral}

abbrev pub both : {A B C : Type 0} → (A → B → C) → Option A → Option B → Option C
both make (Some a) (Some b) = Some (make a b)
both make (Some a) None = None
both make None b = None

-- the one word that there is
abbrev pub one : List (List ℕ) → Option (List ℕ)
one [] = None
one (word ∷ []) = Some word
one (word ∷ more ∷ words) = None

-- the two words that there are
abbrev pub two : List (List ℕ) → Option (List ℕ × List ℕ)
two [] = None
two (first ∷ []) = None
two (first ∷ second ∷ []) = Some (first, second)
two (first ∷ second ∷ more ∷ words) = None

-- ---- entries
-- a number and a value, parted by one colon
abbrev pub entry_form : (List ℕ → Option ℤ) → List ℕ → Option (ℕ × ℤ)
entry_form value word = option_and_then (λ p. both (λ n v. (n, v)) (numeral p.0) (value p.1)) (two (pieces 58 word))

abbrev pub entries_form : (List ℕ → Option ℤ) → List (List ℕ) → Option (List (ℕ × ℤ))
entries_form value [] = Some []
entries_form value (word ∷ words) = both (λ e es. e ∷ es) (entry_form value word) (entries_form value words)

-- the word says how many entries there are
abbrev pub is_count : Option ℕ → List (ℕ × ℤ) → Bool
is_count None entries = false
is_count (Some count) entries = count == length entries

-- the count of the entries, and the entries
abbrev pub counted_form : (List ℕ → Option ℤ) → List (List ℕ) → Option (List (ℕ × ℤ))
counted_form value [] = None
counted_form value (count ∷ words) =
    option_and_then (λ entries. if is_count (numeral count) entries then Some entries else None) (entries_form value words)

abbrev pub multipliers : ℤ → List (ℕ × ℤ) → Multipliers
multipliers q entries = record { q = q; entries = entries }

abbrev pub multipliers_form : List (List ℕ) → Option Multipliers
multipliers_form [] = None
multipliers_form (q ∷ words) = both multipliers (plain_numeral q) (counted_form signed_numeral words)

-- ---- verdicts
abbrev pub best_form : List ℕ → Option (Option ℤ)
best_form word = if bytes_eq word (codes "none") then Some None else option_map Some (plain_numeral word)

-- a verdict that names numbers, by its first word
abbrev pub numbers_form : List ℕ → List ℕ × List ℕ → Option Verdict
numbers_form word numbers =
    if bytes_eq word (codes "plan") then both verdict.Plan (plain_numeral numbers.0) (plain_numeral numbers.1)
    else if bytes_eq word (codes "unfinished") then both verdict.Unfinished (plain_numeral numbers.0) (best_form numbers.1)
    else None

abbrev pub no_plan_form : List (List ℕ) → Option Verdict
no_plan_form [] = Some verdict.NoPlan
no_plan_form (word ∷ words) = None

abbrev pub verdict_form : List (List ℕ) → Option Verdict
verdict_form [] = None
verdict_form (word ∷ words) =
    if bytes_eq word (codes "no-plan") then no_plan_form words else option_and_then (numbers_form word) (two words)

-- ---- lines
abbrev pub header_form : List (List ℕ) → Option CertLine
header_form words = option_and_then
    (λ p. if bytes_eq p.0 (codes "optimus-certificate") && bytes_eq p.1 (codes "1") then Some line.Header else None)
    (two words)

abbrev pub root_form : List (List ℕ) → Option CertLine
root_form [] = None
root_form (word ∷ words) = if bytes_eq word (codes "root") then option_map line.Root (multipliers_form words) else None

abbrev pub none_form : List (List ℕ) → Option (Option (List (ℕ × ℤ)))
none_form words = option_and_then (λ word. if bytes_eq word (codes "none") then Some None else None) (one words)

-- entries where there is a point, and `none` where there is none
abbrev pub entries_or_none : Bool → List (List ℕ) → Option (Option (List (ℕ × ℤ)))
entries_or_none has_point words = if has_point then option_map Some (counted_form plain_numeral words) else none_form words

abbrev pub point_form : Bool → List (List ℕ) → Option CertLine
point_form has_point [] = None
point_form has_point (word ∷ words) =
    if bytes_eq word (codes "point") then option_map line.Point (entries_or_none has_point words) else None

abbrev pub cut_form : List (List ℕ) → Option CertLine
cut_form words = option_and_then (λ p. both line.Split (numeral p.0) (plain_numeral p.1)) (two words)

abbrev pub node_form : List (List ℕ) → Option CertLine
node_form [] = None
node_form (word ∷ words) =
    if bytes_eq word (codes "split") then cut_form words
    else if bytes_eq word (codes "leaf") then option_map line.Leaf (multipliers_form words)
    else None

abbrev pub end_form : List (List ℕ) → Option CertLine
end_form words = option_and_then (λ word. if bytes_eq word (codes "end") then Some line.End else None) (one words)

-- a node, where trees are still to come, and else the last line
abbrev pub tree_form : ℕ → List (List ℕ) → Option CertLine
tree_form zero words = end_form words
tree_form (suc trees) words = node_form words

-- the line that these words are at a place, where they are one that may stand there
abbrev pub form : Place → List (List ℕ) → Option CertLine
form place.Header words = header_form words
form place.Verdict words = option_map line.Verdict (verdict_form words)
form (place.Root has_point) words = root_form words
form (place.Point has_point) words = point_form has_point words
form (place.Nodes trees) words = tree_form trees words
