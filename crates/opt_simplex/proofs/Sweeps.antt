-- A pivot that does not stop: one position has the turned equation, and each other equation is treated by it.
use Rattle.std.proofs.Common.{◌≡◌, ◌≢◌, ◌⊎◌, inl, inr, ℕ, zero, suc, ◌+◌, ◌-◌, ◌<◌, if◌then◌else◌, Bool, true, false, not, List, [], ◌∷◌, length, pos, unsigned_abs, Option, Some, None, Result, Ok, Err, nat_lt, ◌^◌, refl, ap, sym, arith}
use mathlib.Core.Path.{Path}
use Rattle.std.specs.List.{slice_set}
use Rattle.std.proofs.lemmas.Int.{ints}
use Rattle.std.proofs.lemmas.Bool.{eq-eqb, ne_eqb, cases_eq}
use Rattle.opt_base.specs.Answers.{◌>>=◌}
use Rattle.opt_sums.specs.Entries.{coef}
use Rattle.opt_frac.specs.Equations.{Equation}
use Rattle.opt_frac.specs.Elimination.{solution_for, elimination}
use Rattle.opt_simplex.specs.declared.end.Why.{Why}
use Rattle.opt_simplex.specs.declared.end.Why.TheVariants.{Fill}
use Rattle.opt_simplex.specs.Choice.{Leaving}
use Rattle.opt_simplex.specs.Tableau.{Tableau, stored, equation_at}
use Rattle.opt_simplex.specs.Pivot.{Treatment, Sweep, within_fill, replacing, treatment, treatment_at, sweep_from, next_tableau}
use Rattle.opt_simplex.proofs.Regular.{all_of}

-- the equation is as it was, since it has no term at the basic variable of the turned one, or that one is eliminated
pub record IsTreated (by old new : Equation) : Type 0 where
  pub same : coef old.terms by.basic ≡ pos 0 → new ≡ old
  pub made : coef old.terms by.basic ≢ pos 0 → elimination by old ≡ Some new

-- at the position stands the turned equation, at the others what becomes of them
pub record IsSwept (by : Equation) (position : ℕ) (olds news : List Equation) : Type 0 where
  pub same_length : length news ≡ length olds
  pub taken : position < length olds → equation_at news position ≡ by
  pub others : (i : ℕ) → i < length olds → i ≢ position → IsTreated by (equation_at olds i) (equation_at news i)

-- what a step gives that does not stop
pub bind_ok : {A B E : Type 0} (r : Result A E) (f : A → Result B E) (y : B) → (r >>= f) ≡ Ok y → (x : A) × (r ≡ Ok x) × (f x ≡ Ok y)
bind_ok (Ok x) f y h = (x, refl, h)
bind_ok (Err e) f y h = cc

ok_same : {A : Type 0} (a b : A) → Path (Result A Why) (Ok a) (Ok b) → a ≡ b
ok_same a b h = cc

filled : (e : Equation) (count : ℕ) (r : Treatment) → within_fill e count ≡ Ok r → r.equation ≡ e
filled e count r h = by_test (nat_lt (2 ^ 24) count) h
  where
    by_test : (full : Bool) → (if full then Err Fill else Ok (record { equation = e; count = count })) ≡ Ok r → r.equation ≡ e
    by_test true h = cc
    by_test false h = let same : record { equation = e; count = count } ≡ r = cc in sym (ap (λ (t : Treatment). t.equation) same)

replacing-is : (old : Equation) (count : ℕ) (new : Option Equation) (r : Treatment) → replacing old count new ≡ Ok r → new ≡ Some r.equation
replacing-is old count None r h = cc
replacing-is old count (Some e) r h = ap Some (sym (filled e ((count + length e.terms) - length old.terms) r h))

pub treatment-is : (by : Equation) (count : ℕ) (old : Equation) (r : Treatment) → treatment by count old ≡ Ok r → IsTreated by old r.equation
treatment-is by count old r h = by_test (cases_eq (unsigned_abs (coef old.terms by.basic)) 0) h
  where
    by_test : (unsigned_abs (coef old.terms by.basic) ≡ 0) ⊎ (unsigned_abs (coef old.terms by.basic) ≡ 0 → ⊥) → treatment by count old ≡ Ok r
        → IsTreated by old r.equation
    by_test (inl z) h =
        let kept : Ok (record { equation = old; count = count }) ≡ Ok r = rw (eq-eqb (unsigned_abs (coef old.terms by.basic)) 0 z) at h in
        let same : record { equation = old; count = count } ≡ r = cc in
        record {
          same = λ none. sym (ap (λ (t : Treatment). t.equation) same);
          made = λ some. absurd (some (omega (arith, ints, z)));
        }
    by_test (inr z) h =
        record {
          same = λ none. absurd (z (ap unsigned_abs none));
          made = λ some. replacing-is old count (elimination by old) r (rw (ne_eqb (unsigned_abs (coef old.terms by.basic)) 0 z) at h);
        }

-- what becomes of the equation at position i
treatment_at-is : (by : Equation) (position i count : ℕ) (old : Equation) (r : Treatment) → treatment_at by position i count old ≡ Ok r
    → (i ≡ position → r.equation ≡ by) × (i ≢ position → IsTreated by old r.equation)
treatment_at-is by position i count old r h = by_test (cases_eq i position) h
  where
    by_test : (i ≡ position) ⊎ (i ≡ position → ⊥) → treatment_at by position i count old ≡ Ok r
        → (i ≡ position → r.equation ≡ by) × (i ≢ position → IsTreated by old r.equation)
    by_test (inl here) h =
        let kept : Ok (record { equation = by; count = count }) ≡ Ok r = rw (eq-eqb i position here) at h in
        let same : record { equation = by; count = count } ≡ r = cc in
        (λ _. sym (ap (λ (t : Treatment). t.equation) same), λ apart. absurd (apart here))
    by_test (inr apart) h = (λ here. absurd (apart here), λ _. treatment-is by count old r (rw (ne_eqb i position apart) at h))

-- from position i on
pub record IsSweptFrom (by : Equation) (position i : ℕ) (olds news : List Equation) : Type 0 where
  pub same_length : length news ≡ length olds
  pub taken : (k : ℕ) → k < length olds → i + k ≡ position → equation_at news k ≡ by
  pub others : (k : ℕ) → k < length olds → i + k ≢ position → IsTreated by (equation_at olds k) (equation_at news k)

sweep_from-is : (by : Equation) (position i count : ℕ) (olds : List Equation) (s : Sweep) → sweep_from by position i count olds ≡ Ok s
    → IsSweptFrom by position i olds s.equations
sweep_from-is by position i count [] s h =
    let same : record { equations = []; count = count } ≡ s = cc in
    let none : s.equations ≡ [] = sym (ap (λ (t : Sweep). t.equations) same) in
    record {
      same_length = ap length none;
      taken = λ k below _. absurd (omega arith);
      others = λ k below _. absurd (omega arith);
    }
sweep_from-is by position i count (e ∷ es) s h =
    let first : (a : Treatment) × (treatment_at by position i count e ≡ Ok a) ×
    ((sweep_from by position (i + 1) a.count es >>= λ rest. Ok (record { equations = a.equation ∷ rest.equations; count = rest.count })) ≡ Ok s) =
    bind_ok (treatment_at by position i count e)
    (λ a. sweep_from by position (i + 1) a.count es >>= λ rest. Ok (record { equations = a.equation ∷ rest.equations; count = rest.count })) s h in
    let rest : (b : Sweep) × (sweep_from by position (i + 1) first.0.count es ≡ Ok b) ×
    (Ok (record { equations = first.0.equation ∷ b.equations; count = b.count }) ≡ Ok s) =
    bind_ok (sweep_from by position (i + 1) first.0.count es)
    (λ b. Ok (record { equations = first.0.equation ∷ b.equations; count = b.count })) s first.2 in
    let whole : record { equations = first.0.equation ∷ rest.0.equations; count = rest.0.count } ≡ s = ok_same _ _ rest.2 in
    let list : s.equations ≡ first.0.equation ∷ rest.0.equations = sym (ap (λ (t : Sweep). t.equations) whole) in
    let more : IsSweptFrom by position (i + 1) es rest.0.equations = sweep_from-is by position (i + 1) first.0.count es rest.0 rest.1 in
    let here : (i ≡ position → first.0.equation ≡ by) × (i ≢ position → IsTreated by e first.0.equation) =
    treatment_at-is by position i count e first.0 first.1 in
    rw list (cons_swept e first.0.equation es rest.0.equations here more)
  where
    cons_swept : (e new : Equation) (es news : List Equation) → (i ≡ position → new ≡ by) × (i ≢ position → IsTreated by e new)
        → IsSweptFrom by position (i + 1) es news → IsSweptFrom by position i (e ∷ es) (new ∷ news)
    cons_swept e new es news here more =
        record {
          same_length = ap suc more.same_length;
          taken = taken_at;
          others = others_at;
        }
      where
        taken_at : (k : ℕ) → k < length (e ∷ es) → i + k ≡ position → equation_at (new ∷ news) k ≡ by
        taken_at zero below same = here.0 (omega arith)
        taken_at (suc k) below same = more.taken k (omega arith) (omega arith)

        others_at : (k : ℕ) → k < length (e ∷ es) → i + k ≢ position → IsTreated by (equation_at (e ∷ es) k) (equation_at (new ∷ news) k)
        others_at zero below apart = here.1 (λ same. apart (omega arith))
        others_at (suc k) below apart = more.others k (omega arith) (λ same. apart (omega arith))

-- the whole tableau, with the cost equation before the others
pub next_tableau-is : (t next : Tableau) (l : Leaving) (col : ℕ) → next_tableau t l col ≡ Ok next → l.position < length t.equations
    → IsSwept (solution_for col l.equation) (suc l.position) (all_of t) (all_of next) × (next.at_high ≡ slice_set t.at_high l.equation.basic (not l.below))
unfolding next_tableau
next_tableau-is t next l col h inside =
    let by : Equation = solution_for col l.equation in
    let first : (s : Sweep) × (sweep_from by l.position 0 (stored t) t.equations ≡ Ok s) ×
    ((treatment by s.count t.cost >>= λ c. Ok (record { equations = s.equations; cost = c.equation; at_high = slice_set t.at_high l.equation.basic (not l.below) })) ≡ Ok next) =
    bind_ok (sweep_from by l.position 0 (stored t) t.equations)
    (λ s. treatment by s.count t.cost >>= λ c. Ok (record { equations = s.equations; cost = c.equation; at_high = slice_set t.at_high l.equation.basic (not l.below) })) next h in
    let second : (c : Treatment) × (treatment by first.0.count t.cost ≡ Ok c) ×
    (Ok (record { equations = first.0.equations; cost = c.equation; at_high = slice_set t.at_high l.equation.basic (not l.below) }) ≡ Ok next) =
    bind_ok (treatment by first.0.count t.cost)
    (λ c. Ok (record { equations = first.0.equations; cost = c.equation; at_high = slice_set t.at_high l.equation.basic (not l.below) })) next first.2 in
    let whole : record { equations = first.0.equations; cost = second.0.equation; at_high = slice_set t.at_high l.equation.basic (not l.below) } ≡ next =
    ok_same _ _ second.2 in
    let sweep : IsSweptFrom by l.position 0 t.equations first.0.equations = sweep_from-is by l.position 0 (stored t) t.equations first.0 first.1 in
    let cost : IsTreated by t.cost second.0.equation = treatment-is by first.0.count t.cost second.0 second.1 in
    rw (sym whole) (with_cost by second.0.equation first.0.equations sweep cost, refl)
  where
    with_cost : (by c : Equation) (news : List Equation) → IsSweptFrom by l.position 0 t.equations news → IsTreated by t.cost c
        → IsSwept by (suc l.position) (t.cost ∷ t.equations) (c ∷ news)
    with_cost by c news sweep cost =
        record {
          same_length = ap suc sweep.same_length;
          taken = λ below. sweep.taken l.position (omega arith) (omega arith);
          others = others_at;
        }
      where
        others_at : (i : ℕ) → i < length (t.cost ∷ t.equations) → i ≢ suc l.position
            → IsTreated by (equation_at (t.cost ∷ t.equations) i) (equation_at (c ∷ news) i)
        others_at zero below apart = cost
        others_at (suc i) below apart = sweep.others i (omega arith) (λ same. apart (omega arith))
