-- Answers of the checker's calls that take memory.
use Rattle.std.specs.Prelude.{◌≡◌, Result, Ok, Err}
use Rattle.opt_tree.specs.declared.check_fault.CheckFault.{CheckFault}
use Rattle.opt_tree.specs.declared.check_fault.CheckFault.TheVariants.{OutOfMemory}

-- what is shown is this fault; of want of memory nothing is said
abbrev pub Fails : {Y : Type 0} → CheckFault → Result Y CheckFault → Type 0
Fails OutOfMemory shown = Unit {0}
Fails fault shown = shown ≡ Err fault

-- a call's answer, seen by view, is what is shown, unless memory ran out
abbrev pub Shows : {X Y : Type 0} → (X → Y) → Result X CheckFault → Result Y CheckFault → Type 0
Shows view (Ok x) shown = shown ≡ Ok (view x)
Shows view (Err fault) shown = Fails fault shown
