-- Entries of a line one by one: what is read so far, and what the words that are left make of it.
use Rattle.std.specs.Prelude.{◌≡◌, ℕ, Bool, ◌&&◌, ◌==◌, if◌then◌else◌, List, [], ◌∷◌, ◌++◌, length, Option, Some, None, Result, Ok, Err, ℤ}
use Rattle.std.specs.List.{list_all}
use Rattle.opt_cert.specs.declared.entries.EntryKind.{EntryKind}
use Rattle.opt_cert.specs.declared.entries.EntryKind.TheVariants.{Rows, Quantities}
use Rattle.opt_cert.specs.declared.entries.EntryList.{EntryList}
use Rattle.opt_cert.specs.declared.line_fault.LineFault.{LineFault}
use Rattle.opt_cert.specs.declared.line_fault.LineFault.TheVariants.{BadLine, Range}
use Rattle.opt_cert.specs.Numbers.{signed_numeral, plain_numeral}
use Rattle.opt_cert.specs.Forms.{entries_form, counted_form}
use Rattle.opt_cert.specs.Ranges.{row_in_range, quantity_in_range, weight_in_range, value_in_range}
use Rattle.opt_cert.specs.Judging.{ranged, LineFails}

-- the value that a word spells in an entry
abbrev pub value_form : EntryKind → List ℕ → Option ℤ
value_form Rows = signed_numeral
value_form Quantities = plain_numeral

abbrev pub kind_in_range : EntryKind → ℤ → Bool
kind_in_range Rows = weight_in_range
kind_in_range Quantities = value_in_range

abbrev pub entry_in_range : EntryKind → ℕ × ℤ → Bool
entry_in_range Rows = row_in_range
entry_in_range Quantities = quantity_in_range

-- entries with their count before them
abbrev pub list_form : EntryKind → List (List ℕ) → Result (List (ℕ × ℤ)) LineFault
list_form kind words = ranged (list_all (entry_in_range kind)) (counted_form (value_form kind) words)

-- the list, once these entries too are read
abbrev pub list_with : EntryKind → EntryList → Option (List (ℕ × ℤ)) → Result (List (ℕ × ℤ)) LineFault
list_with kind list None = Err BadLine
list_with kind list (Some entries) =
    if list.left == length entries
    then (if list.in_range && list_all (entry_in_range kind) entries then Ok (list.entries.items ++ entries) else Err Range)
    else Err BadLine

-- the list, once these words too are read
abbrev pub list_on : EntryKind → EntryList → List (List ℕ) → Result (List (ℕ × ℤ)) LineFault
list_on kind list words = list_with kind list (entries_form (value_form kind) words)

-- a list goes on with the words after this one, or its fault is that of the whole
abbrev pub GoesOn : Result (Unit {0}) LineFault → EntryKind → EntryList → List ℕ → EntryList → Type 0
GoesOn (Ok done) kind old word new = (words : List (List ℕ)) → list_on kind old (word ∷ words) ≡ list_on kind new words
GoesOn (Err fault) kind old word new = (words : List (List ℕ)) → LineFails fault (list_on kind old (word ∷ words))
