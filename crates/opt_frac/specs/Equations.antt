-- Equations with one variable on the left: lead times it is the sum of the other terms.
use Rattle.std.specs.Prelude.{◌≡◌, ◌≢◌, ◌↔◌, ℕ, List, All, ℤ, pos, ◌*ℤ◌, ◌≤ℤ◌, unsigned_abs, int_div}
use Rattle.std.specs.Ordering.{int_cmp}
use Rattle.std.specs.declared.cmp.Ordering.{Ordering}
use Rattle.opt_sums.specs.Sums.{at}
use Rattle.opt_sums.specs.Entries.{coef, dot, IsRising, HasNoZero}
use Rattle.opt_frac.specs.Divisors.{gcd_with, quotients, Fits}

-- lead times the basic variable is the sum of coefficient times variable over the terms
pub record Equation : Type 0 where
  pub basic : ℕ
  pub lead : ℤ
  pub terms : List (ℕ × ℤ)

-- the equation with this basic variable, lead and terms
abbrev pub equation_of : ℕ → ℤ → List (ℕ × ℤ) → Equation
equation_of basic lead terms = record { basic = basic; lead = lead; terms = terms }

-- the list gives the variables values that meet the equation
abbrev pub Holds : Equation → List ℤ → Type 0
Holds e x = (e.lead *ℤ at x e.basic) ≡ dot e.terms x

-- the equation has a term at the variable
abbrev pub HasTerm : Equation → ℕ → Type 0
HasTerm e k = coef e.terms k ≢ pos 0

-- the same lists of values meet both equations
abbrev pub SameValues : Equation → Equation → Type 0
SameValues a b = (x : List ℤ) → Holds a x ↔ Holds b x

-- of the lists of values that meet the first equation, the same meet the other two
abbrev pub SameValuesWhere : Equation → Equation → Equation → Type 0
SameValuesWhere by a b = (x : List ℤ) → Holds by x → Holds a x ↔ Holds b x

-- the equation is solved for its basic variable: the lead is at least 1, the terms go by rising variable, none of
-- them 0 and none at the basic variable, and every number fits
pub record IsSolved (e : Equation) : Type 0 where
  pub lead_positive : pos 1 ≤ℤ e.lead
  pub lead_fits : Fits e.lead
  pub rising : IsRising e.terms
  pub no_zero : HasNoZero e.terms
  pub apart : All (λ term. term.0 ≢ e.basic) e.terms
  pub fitting : All (λ term. Fits term.1) e.terms

-- the term may stand in an equation that is solved for this variable: it is not 0, at another variable, and fits
pub record MayStand (basic : ℕ) (term : ℕ × ℤ) : Type 0 where
  pub no_zero : term.1 ≢ pos 0
  pub apart : term.0 ≢ basic
  pub fitting : Fits term.1

-- the greatest common divisor of the lead and all coefficients
abbrev pub divisor_of : Equation → ℕ
divisor_of e = gcd_with (unsigned_abs e.lead) e.terms

-- the equation is solved and in lowest terms
pub record IsReduced (e : Equation) : Type 0 where
  pub solved : IsSolved e
  pub lowest : divisor_of e ≡ 1

-- the equation divided by a number that divides all of it
abbrev pub divided_by : ℕ → Equation → Equation
divided_by d e = record { basic = e.basic; lead = int_div e.lead (pos d); terms = quotients d e.terms }

-- the equation in lowest terms
unfoldable pub lowest : Equation → Equation
lowest e = divided_by (divisor_of e) e

-- how a/b stands to c/d, where b and d are above 0
abbrev pub comparison : ℤ → ℤ → ℤ → ℤ → Ordering
comparison a b c d = int_cmp (a *ℤ d) (c *ℤ b)
