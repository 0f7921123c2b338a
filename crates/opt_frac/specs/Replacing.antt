-- What a call answers that replaces a variable in an equation.
use Rattle.std.specs.Prelude.{◌≡◌, List, ℕ, true, false, ℤ, pos, unsigned_abs, int_div, Option, Some, None, Result, Ok, Err}
use Rattle.opt_frac.specs.declared.elim_fault.ElimFault.{ElimFault}
use Rattle.opt_frac.specs.declared.elim_fault.ElimFault.TheVariants.{Wide, OutOfMemory}
use Rattle.opt_sums.specs.Entries.{coef}
use Rattle.opt_frac.specs.Divisors.{fits, gcd}
use Rattle.opt_frac.specs.Equations.{Equation, equation_of, IsReduced, SameValuesWhere}
use Rattle.opt_frac.specs.Elimination.{multiple, without}

-- how often the equation is taken, so that the other one's basic variable falls out
abbrev pub own_factor : Equation → Equation → ℤ
own_factor by e = int_div by.lead (pos (gcd (unsigned_abs by.lead) (unsigned_abs (coef e.terms by.basic))))

-- how often the other one's terms are taken then
abbrev pub other_factor : Equation → Equation → ℤ
other_factor by e = int_div (coef e.terms by.basic) (pos (gcd (unsigned_abs by.lead) (unsigned_abs (coef e.terms by.basic))))

-- the product, where it fits
abbrev pub IsProduct : Result ℤ ElimFault → ℤ → Type 0
IsProduct (Ok lead) product = (fits product ≡ true) × (lead ≡ product)
IsProduct (Err Wide) product = fits product ≡ false
IsProduct (Err OutOfMemory) product = Unit {0}

-- the terms of an equation and of the one that replaces a variable in it, as often as they are taken
abbrev pub own_terms : Equation → Equation → List (ℕ × ℤ)
own_terms by e = multiple (own_factor by e) (without by.basic e.terms)

abbrev pub other_terms : Equation → Equation → List (ℕ × ℤ)
other_terms by e = multiple (other_factor by e) by.terms

-- the answer is the equation, or Wide where there is none, unless memory ran out
abbrev pub Replaces : Result Equation ElimFault → Option Equation → Type 0
Replaces (Ok equation) made = made ≡ Some equation
Replaces (Err Wide) made = made ≡ None
Replaces (Err OutOfMemory) made = Unit {0}

-- the equation stands in place of the old one, or it is Wide where there is none, unless memory ran out
abbrev pub ReplacesIn : {T : Type 0} → Result T ElimFault → Equation → Option Equation → Type 0
ReplacesIn (Ok done) equation made = made ≡ Some equation
ReplacesIn (Err Wide) equation made = made ≡ None
ReplacesIn (Err OutOfMemory) equation made = Unit {0}

-- the answer is the lead of the equation with this basic variable and these terms, or Wide where there is none, unless
-- memory ran out
abbrev pub ReplacesBy : Result ℤ ElimFault → ℕ → List (ℕ × ℤ) → Option Equation → Type 0
ReplacesBy (Ok lead) basic terms made = made ≡ Some (equation_of basic lead terms)
ReplacesBy (Err Wide) basic terms made = made ≡ None
ReplacesBy (Err OutOfMemory) basic terms made = Unit {0}

-- the equation is reduced, and of the lists of values that meet the replacing one, the same meet it and the old one
pub record IsMade (by old new : Equation) : Type 0 where
  pub reduced : IsReduced new
  pub same_values : SameValuesWhere by old new
