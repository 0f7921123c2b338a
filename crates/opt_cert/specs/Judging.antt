-- How the parts of a line are judged: whether they are spelled rightly, then whether numbers are in range, then order.
use Rattle.std.specs.Prelude.{◌≡◌, ℕ, ◌^◌, Bool, ◌&&◌, not, ◌==◌, nat_lt, nat_le, if◌then◌else◌, List, Option, Some, None, Result, Ok, Err, ℤ, unsigned_abs}
use Rattle.std.specs.List.{list_all}
use Rattle.opt_cert.specs.Numbers.{plain_numeral}
use Rattle.opt_cert.specs.declared.line_fault.LineFault.{LineFault}
use Rattle.opt_cert.specs.declared.line_fault.LineFault.TheVariants.{BadLine, Range, Order, OutOfMemory}
use Rattle.opt_cert.specs.declared.cert_fault.CertFault.{CertFault}
use Rattle.opt_cert.specs.declared.cert_fault.CertFault.TheVariants as fault
use Rattle.opt_cert.specs.declared.cert_line.CertLine.{CertLine}
use Rattle.opt_bound.specs.Multipliers.{Multipliers}
use Rattle.opt_cert.specs.Forms.{counted_form, multipliers_form}
use Rattle.opt_cert.specs.Ranges.{is_in_range, is_in_order, multipliers_in_range, quantity_in_range, rises_from}

-- what is spelled, where its numbers are in range
abbrev pub ranged : {A : Type 0} → (A → Bool) → Option A → Result A LineFault
ranged in_range None = Err BadLine
ranged in_range (Some a) = if in_range a then Ok a else Err Range

-- what is in range, where its entries rise
abbrev pub ordered : {A : Type 0} → (A → Bool) → Result A LineFault → Result A LineFault
ordered in_order (Ok a) = if in_order a then Ok a else Err Order
ordered in_order (Err f) = Err f

-- the line that this is, or what is wrong with it
abbrev pub judged_line : Option CertLine → Result CertLine LineFault
judged_line read = ordered is_in_order (ranged is_in_range read)

-- multipliers in range whose rows rise, or what is wrong with them
abbrev pub judged_multipliers : List (List ℕ) → Result Multipliers LineFault
judged_multipliers words = ordered (λ m. rises_from 0 m.entries) (ranged multipliers_in_range (multipliers_form words))

-- entries of a point in range whose quantities rise, or what is wrong with them
abbrev pub judged_entries : List (List ℕ) → Result (List (ℕ × ℤ)) LineFault
judged_entries words = ordered (rises_from 0) (ranged (list_all quantity_in_range) (counted_form plain_numeral words))

-- what a call gives, seen by view, unless memory ran out
abbrev pub LineFails : {Y : Type 0} → LineFault → Result Y LineFault → Type 0
LineFails OutOfMemory read = Unit {0}
LineFails BadLine read = read ≡ Err BadLine
LineFails Range read = read ≡ Err Range
LineFails Order read = read ≡ Err Order

abbrev pub LineTells : {X Y : Type 0} → (X → Y) → Result X LineFault → Result Y LineFault → Type 0
LineTells view (Ok x) read = read ≡ Ok (view x)
LineTells view (Err f) read = LineFails f read

-- the worse of two faults of the parts of a line; where memory ran out in one part, nothing is said of both
abbrev pub worse : LineFault → LineFault → LineFault
worse OutOfMemory other = OutOfMemory
worse BadLine OutOfMemory = OutOfMemory
worse BadLine other = BadLine
worse Range OutOfMemory = OutOfMemory
worse Range BadLine = BadLine
worse Range other = Range
worse Order other = other

abbrev pub pair : {A B : Type 0} → Result A LineFault → Result B LineFault → Result (A × B) LineFault
pair (Ok a) (Ok b) = Ok (a, b)
pair (Ok a) (Err f) = Err f
pair (Err f) (Ok b) = Err f
pair (Err f) (Err other) = Err (worse f other)

-- the fault of the line with this number
abbrev pub fault_at : ℕ → LineFault → CertFault
fault_at number BadLine = fault.BadLine number
fault_at number Range = fault.Range number
fault_at number Order = fault.Order number
fault_at number OutOfMemory = fault.OutOfMemory

abbrev pub numbered : {A : Type 0} → ℕ → Result A LineFault → Result A CertFault
numbered number (Ok a) = Ok a
numbered number (Err f) = Err (fault_at number f)
