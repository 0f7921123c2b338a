-- The first wrong entry of multipliers and why it is wrong, as a function that computes.
use Rattle.std.specs.Prelude.{◌≡◌, Bool, true, ℕ, ◌<◌, List, [], ◌∷◌, length, slice_index_or, Option, Some, None, ℤ, pos, int_lt, nat_lt, if◌then◌else◌}
use Rattle.opt_system.specs.declared.rows.RowKind.{RowKind}
use Rattle.opt_system.specs.declared.rows.RowKind.TheVariants.{Ge, Eq}
use Rattle.opt_system.specs.Systems.{System, row_at}
use Rattle.opt_bound.specs.declared.fault.EntryFault.{EntryFault}
use Rattle.opt_bound.specs.declared.fault.EntryFault.TheVariants.{RowNumber, Sign}
use Rattle.opt_bound.specs.Multipliers.{IsFitting}

-- a row of this kind may be taken this often
abbrev pub may_weigh : RowKind → ℤ → Bool
may_weigh Ge y = int_lt (pos 0) y
may_weigh Eq y = true

-- why the entry is wrong: it names no row of the system, or is not above 0 on a Ge row
abbrev pub entry_fault_of : System → ℕ × ℤ → Option EntryFault
entry_fault_of p e =
    if nat_lt e.0 (length p.rows)
    then (if may_weigh (row_at p.rows e.0).kind e.1 then None else Some (Sign e.0))
    else Some (RowNumber e.0)

-- the first of two faults, where there is one
abbrev pub first_of : Option EntryFault → Option EntryFault → Option EntryFault
first_of (Some fault) later = Some fault
first_of None later = later

-- the fault of the first wrong entry
abbrev pub first_fault_of : System → List (ℕ × ℤ) → Option EntryFault
first_fault_of p [] = None
first_fault_of p (e ∷ es) = first_of (entry_fault_of p e) (first_fault_of p es)

-- entry i is the first wrong one, and this is its fault
pub record IsFirstFault (p : System) (es : List (ℕ × ℤ)) (fault : EntryFault) (i : ℕ) : Type 0 where
  pub in_list : i < length es
  pub wrong : entry_fault_of p (slice_index_or es i (0, pos 0)) ≡ Some fault
  pub before : (k : ℕ) → k < i → IsFitting p (slice_index_or es k (0, pos 0))
