-- A point as the entries of its quantities that are not 0: a certificate may list them, and a look through them finds no
-- fault where the point meets the system.
use Rattle.std.proofs.Common.{◌≡◌, ℕ, suc, ◌+◌, ◌<◌, ◌≤◌, ◌==◌, Bool, true, false, cond, not, ◌&&◌, nat_lt, List, [], ◌∷◌, length, Option, Some, None, Ok, Err, Result, ℤ, pos, ◌≤ℤ◌, unsigned_abs, int_le, All, refl, ap, sym, ◌∙◌, arith}
use Rattle.std.specs.List.{enumerate_from}
use Rattle.std.specs.Ordering.{int_eq}
use Rattle.std.proofs.lemmas.Int.{ints}
use Rattle.std.proofs.lemmas.Bool.Decides.{nat_tests}
use Rattle.std.proofs.lemmas.List.Elements.{All-nil, All-cons, All-filter, All-head, All-tail}
use Rattle.opt_base.specs.Answers.{◌>>=◌}
use Rattle.opt_base.specs.declared.verdict.Verdict.{Verdict}
use Rattle.opt_sums.specs.Sums.{at}
use Rattle.opt_system.specs.Ranges.{IsWithin}
use Rattle.opt_system.specs.Broken.{first_broken_of}
use Rattle.opt_system.specs.Systems.{System, IsLimited, Meets, value}
use Rattle.opt_system.proofs.BrokenLemmas.{first_broken_of-none}
use Rattle.opt_system.proofs.LimitLemmas.{size_point}
use Rattle.opt_tree.specs.declared.check_fault.CheckFault.{CheckFault}
use Rattle.opt_tree.specs.declared.check_fault.CheckFault.TheVariants.{PlanRange, PlanBroken, WrongObjective}
use Rattle.opt_tree.specs.Certificates.{AreEntries, named_value, point_of, entries_of}
use Rattle.opt_tree.specs.Shown.{first_outside_from, first_outside, first_unknown, unless_found, names_value, look_objective, look_range, look_entries}
use Rattle.opt_tree.proofs.PointLemmas.{point_of-entries_of, AreEntries-entries_of}

-- ---- a certificate may list them
pub point_entries : (s : System) (x : List ℤ) → IsLimited s → IsWithin s.root x → AreEntries (entries_of x)
point_entries s x limited inside =
    AreEntries-entries_of x (omega (arith, inside.same_length, limited.ordered.same_length, limited.small.few_quantities)) (record {
      from_zero = λ i h.
          let low : pos 0 ≤ℤ at s.root.low i = limited.ordered.from_zero i (omega (arith, inside.same_length)) in
          let above : at s.root.low i ≤ℤ at x i = inside.above i h in
          omega (arith, ints);
      small = λ i h.
          let in_root : i < length s.root.low = omega (arith, inside.same_length) in
          omega (arith, size_point s.root x i limited.ordered inside in_root, limited.small.costs.highs i (omega (arith, limited.small.cost_each)));
    })

-- ---- a look through them finds no fault
abbrev is_left : ℕ × ℤ → Bool
is_left e = not (unsigned_abs e.1 == 0)

-- each entry names a quantity
numbers_below : (a : ℕ) (x : List ℤ) (n : ℕ) → a + length x ≤ n → All (λ e. e.0 < n) (enumerate_from a x)
numbers_below a [] n h = All-nil (λ e. e.0 < n)
numbers_below a (v ∷ x) n h = All-cons (λ e. e.0 < n) (a, v) (enumerate_from (a + 1) x) (omega arith) (numbers_below (a + 1) x n (omega arith))

both_pass : (a b : Bool) (r : Option ℕ) (j : ℕ) → a ≡ true → b ≡ true → cond (a && b) r (Some j) ≡ r
both_pass true true r j p q = refl
both_pass true false r j p q = cc
both_pass false b r j p q = cc

test_le : (a b : ℤ) → a ≤ℤ b → int_le a b ≡ true
test_le a b h = grind (arith, ints)

none_outside : (j : ℕ) (lows highs x : List ℤ) → ((i : ℕ) → i < length x → at lows i ≤ℤ at x i) → ((i : ℕ) → i < length x → at x i ≤ℤ at highs i) → first_outside_from j lows highs x ≡ None
none_outside j [] highs x above below = refl
none_outside j (l ∷ lows) [] x above below = refl
none_outside j (l ∷ lows) (u ∷ highs) [] above below = refl
none_outside j (l ∷ lows) (u ∷ highs) (v ∷ x) above below =
    both_pass (int_le l v) (int_le v u) (first_outside_from (j + 1) lows highs x) j (test_le l v (above 0 (omega arith))) (test_le v u (below 0 (omega arith)))
    ∙ none_outside (j + 1) lows highs x (λ i h. above (suc i) (omega arith)) (λ i h. below (suc i) (omega arith))

known : (b : Bool) (r : Option ℕ) (q : ℕ) → b ≡ true → cond b r (Some q) ≡ r
known true r q h = refl
known false r q h = cc

test_lt : (a b : ℕ) → a < b → nat_lt a b ≡ true
test_lt a b h = grind (arith, nat_tests)

none_unknown : (n : ℕ) (es : List (ℕ × ℤ)) → All (λ e. e.0 < n) es → first_unknown n es ≡ None
none_unknown n [] all = refl
none_unknown n (e ∷ es) all =
    known (nat_lt e.0 n) (first_unknown n es) e.0 (test_lt e.0 n (All-head (λ d. d.0 < n) e es all)) ∙ none_unknown n es (All-tail (λ d. d.0 < n) e es all)

pub int_eq-self : (a : ℤ) → int_eq a a ≡ true
int_eq-self a = grind (arith, ints)

objective_named : (v : Verdict) (o : ℤ) → named_value v ≡ Some o → look_objective v o ≡ Ok o
objective_named v o named =
    let fault : Result ℤ CheckFault = Err (WrongObjective o) in
    ap (λ r. cond (names_value r o) (Ok o) fault) named ∙ ap (λ b. cond b (Ok o) fault) (int_eq-self o)

pub point_listed : (n : ℕ) (x : List ℤ) → length x ≡ n → point_of n (entries_of x) ≡ x
point_listed n x same = ap (λ m. point_of m (entries_of x)) (sym same) ∙ point_of-entries_of x

range_found : (s : System) (x : List ℤ) → IsLimited s → IsWithin s.root x → look_range s (entries_of x) ≡ Ok x
range_found s x limited inside =
    let n : ℕ = length s.cost in
    let same : length x ≡ n = omega (arith, inside.same_length, limited.small.cost_each) in
    let es : List (ℕ × ℤ) = entries_of x in
    let exist : All (λ e. e.0 < n) es = All-filter is_left (λ e. e.0 < n) (enumerate_from 0 x) (numbers_below 0 x n (omega arith)) in
    ap (λ (z : List ℤ). unless_found (first_outside s.root z) PlanRange z >>= λ y. unless_found (first_unknown n es) PlanRange y) (point_listed n x same)
    ∙ ap (λ (r : Option ℕ). unless_found r PlanRange x >>= λ y. unless_found (first_unknown n es) PlanRange y) (none_outside 0 s.root.low s.root.high x inside.above inside.below)
    ∙ ap (λ (r : Option ℕ). unless_found r PlanRange x) (none_unknown n es exist)

pub look_entries-found : (s : System) (v : Verdict) (x : List ℤ) (o : ℤ) → IsLimited s → Meets s x → value s x ≡ o → named_value v ≡ Some o → look_entries s v (entries_of x) ≡ Ok o
look_entries-found s v x o limited meets is named =
    ap (λ (r : Result (List ℤ) CheckFault). r >>= λ y. unless_found (first_broken_of s.rows y) PlanBroken y >>= λ z. look_objective v (value s z)) (range_found s x limited meets.in_range)
    ∙ ap (λ (r : Option ℕ). unless_found r PlanBroken x >>= λ z. look_objective v (value s z)) (first_broken_of-none s.rows x meets.rows_hold)
    ∙ ap (look_objective v) is
    ∙ objective_named v o named
