-- The line that is printed where a certificate's text is refused, or does not show its verdict.
use Rattle.std.specs.Prelude.{ℕ, List, [], ◌∷◌, ◌++◌, codes}
use Rattle.std.specs.Fmt.{decimal, signed_decimal}
use Rattle.opt_tree.specs.declared.check_fault.CheckFault.{CheckFault}
use Rattle.opt_tree.specs.declared.check_fault.CheckFault.TheVariants as check
use Rattle.opt_cert.specs.declared.cert_fault.CertFault.{CertFault}
use Rattle.opt_cert.specs.declared.cert_fault.CertFault.TheVariants as cert

-- the line of a fault with this name at this place
abbrev pub fault_line : List ℕ → List ℕ → List ℕ
fault_line place name = codes "refused certificate.txt" ++ (place ++ (codes ": " ++ (name ++ 10 ∷ [])))

-- ---- a fault of the text
-- the line of the text, where there is one
abbrev pub cert_fault_place : CertFault → List ℕ
cert_fault_place (cert.BadLine number) = codes " line " ++ decimal number
cert_fault_place (cert.Range number) = codes " line " ++ decimal number
cert_fault_place (cert.Order number) = codes " line " ++ decimal number
cert_fault_place cert.Truncated = []
cert_fault_place cert.Trailing = []
cert_fault_place cert.OutOfMemory = []

-- what it is called; want of memory is no refusal, and its line is not printed
abbrev pub cert_fault_name : CertFault → List ℕ
cert_fault_name (cert.BadLine number) = codes "BadLine"
cert_fault_name (cert.Range number) = codes "Range"
cert_fault_name (cert.Order number) = codes "Order"
cert_fault_name cert.Truncated = codes "Truncated"
cert_fault_name cert.Trailing = codes "Trailing"
cert_fault_name cert.OutOfMemory = codes "OutOfMemory"

abbrev pub cert_fault_line : CertFault → List ℕ
cert_fault_line fault = fault_line (cert_fault_place fault) (cert_fault_name fault)

-- ---- a fault of what it shows
-- the quantity, the row or the node, where there is one
abbrev pub check_fault_place : CheckFault → List ℕ
check_fault_place check.RootLine = []
check_fault_place (check.PlanRange quantity) = codes " quantity " ++ decimal quantity
check_fault_place (check.PlanBroken row) = codes " row " ++ decimal row
check_fault_place (check.WrongObjective value) = []
check_fault_place (check.CutRange node) = codes " node " ++ decimal node
check_fault_place (check.RowNumber node row) = codes " node " ++ (decimal node ++ (codes " row " ++ decimal row))
check_fault_place (check.Sign node row) = codes " node " ++ (decimal node ++ (codes " row " ++ decimal row))
check_fault_place (check.LeafOpen node bound) = codes " node " ++ decimal node
check_fault_place (check.UnderLimit nodes) = []
check_fault_place check.NothingOpen = []
check_fault_place (check.WrongBound value) = []
check_fault_place check.OutOfMemory = []

-- what it is called, with the number that it carries; want of memory is no refusal, and its line is not printed
abbrev pub check_fault_name : CheckFault → List ℕ
check_fault_name check.RootLine = codes "RootLine"
check_fault_name (check.PlanRange quantity) = codes "PlanRange"
check_fault_name (check.PlanBroken row) = codes "PlanBroken"
check_fault_name (check.WrongObjective value) = codes "WrongObjective " ++ signed_decimal value
check_fault_name (check.CutRange node) = codes "CutRange"
check_fault_name (check.RowNumber node row) = codes "RowNumber"
check_fault_name (check.Sign node row) = codes "Sign"
check_fault_name (check.LeafOpen node bound) = codes "LeafOpen " ++ signed_decimal bound
check_fault_name (check.UnderLimit nodes) = codes "UnderLimit " ++ decimal nodes
check_fault_name check.NothingOpen = codes "NothingOpen"
check_fault_name (check.WrongBound value) = codes "WrongBound " ++ signed_decimal value
check_fault_name check.OutOfMemory = codes "OutOfMemory"

abbrev pub check_fault_line : CheckFault → List ℕ
check_fault_line fault = fault_line (check_fault_place fault) (check_fault_name fault)
