-- The rounding search has one answer alone.
use Rattle.std.proofs.Common.{◌≡◌, ℕ, Option, Some, None, List, [], ◌∷◌, ℤ, sym, subst, ◌∙◌}
use Rattle.opt_system.specs.Ranges.{Range}
use Rattle.opt_system.specs.Systems.{System}
use Rattle.opt_simplex.specs.declared.end.LpEnd.{LpEnd}
use Rattle.opt_simplex.specs.declared.end.LpEnd.TheVariants.{Optimal, Empty, Stopped}
use Rattle.opt_simplex.specs.Guide.{guide_end, fractions_of, first_fractional}
use Rattle.opt_dive.specs.Rounding.{IsLast, IsRoundingOf, LeadsTo, fix_up}

none_some : (j : ℕ) → None ≡ Some j → ⊥
none_some j e = cc

-- where an end is the last, there is no quantity to fix
none_left : (end : LpEnd) (x : Option (List ℤ)) (j : ℕ) → IsLast end x → first_fractional (fractions_of end) ≡ Some j → ⊥
none_left (Optimal point m done) x j last first = none_some j (sym last.0 ∙ first)
none_left (Empty m done) x j last first = none_some j first
none_left (Stopped why done m) x j last first = none_some j first

one_last : (end : LpEnd) (x y : Option (List ℤ)) → IsLast end x → IsLast end y → x ≡ y
one_last (Optimal point m done) x y a b = a.1 ∙ sym b.1
one_last (Empty m done) x y a b = a ∙ sym b
one_last (Stopped why done m) x y a b = a ∙ sym b

same_quantity : (r : Option ℕ) (j k : ℕ) → r ≡ Some j → r ≡ Some k → k ≡ j
same_quantity r j k a b = cc

leads_unique : (s : System) (js ks : List ℕ) (box : Range) (x y : Option (List ℤ)) → LeadsTo s js box x → LeadsTo s ks box y → x ≡ y
leads_unique s [] [] box x y a b = one_last (guide_end s box) x y a b
leads_unique s [] (k ∷ ks) box x y a b = absurd (none_left (guide_end s box) x k a b.0)
leads_unique s (j ∷ js) [] box x y a b = absurd (none_left (guide_end s box) y j b a.0)
leads_unique s (j ∷ js) (k ∷ ks) box x y a b =
    let fs : List (ℤ × ℤ) = fractions_of (guide_end s box) in
    let same : k ≡ j = same_quantity (first_fractional fs) j k a.0 b.0 in
    leads_unique s js ks (fix_up fs box j) x y a.1 (subst (λ i. LeadsTo s ks (fix_up fs box i) y) same b.1)

-- what a box leads to is one answer
pub rounding_unique : (s : System) (box : Range) (x y : Option (List ℤ)) → IsRoundingOf s box x → IsRoundingOf s box y → x ≡ y
rounding_unique s box x y a b = leads_unique s a.fixed b.fixed box x y a.leads b.leads
