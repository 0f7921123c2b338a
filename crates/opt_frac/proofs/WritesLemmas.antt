-- A fault of writing terms, handed on.
use Rattle.std.proofs.Common.{◌≡◌, ℕ, List, ℤ, Bool, false, Option, None, Err}
use Rattle.opt_frac.specs.declared.elim_fault.ElimFault.{ElimFault}
use Rattle.opt_frac.specs.declared.elim_fault.ElimFault.TheVariants.{Wide, OutOfMemory}
use Rattle.opt_frac.specs.Divisors.{fits}
use Rattle.opt_frac.specs.Equations.{Equation}
use Rattle.opt_frac.specs.Merging.{Writes}
use Rattle.opt_frac.specs.Replacing.{IsProduct, ReplacesBy}

-- the same fault of a part and of the whole, which does not fit where the part does not
pub Writes-whole : (T S : Type 0) (fault : ElimFault) (part all : Bool) (old new written also_old also_new also_written : List (ℕ × ℤ)) → (part ≡ false → all ≡ false) → Writes {T = T} (Err fault) old new part written → Writes {T = S} (Err fault) also_old also_new all also_written
Writes-whole T S Wide part all old new written also_old also_new also_written whole is = whole is
Writes-whole T S OutOfMemory part all old new written also_old also_new also_written whole is = tt

-- another answer for the same fault
pub Writes-fault : (T : Type 0) (fault : ElimFault) (fitting : Bool) (old new written : List (ℕ × ℤ)) (basic : ℕ) (terms : List (ℕ × ℤ)) (made : Option Equation) → (fitting ≡ false → made ≡ None) → Writes {T = T} (Err fault) old new fitting written → ReplacesBy (Err fault) basic terms made
Writes-fault T Wide fitting old new written basic terms made none is = none is
Writes-fault T OutOfMemory fitting old new written basic terms made none is = tt

pub IsProduct-fault : (fault : ElimFault) (product : ℤ) (basic : ℕ) (terms : List (ℕ × ℤ)) (made : Option Equation) → (fits product ≡ false → made ≡ None) → IsProduct (Err fault) product → ReplacesBy (Err fault) basic terms made
IsProduct-fault Wide product basic terms made none is = none is
IsProduct-fault OutOfMemory product basic terms made none is = tt
