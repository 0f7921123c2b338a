-- What the choice of an entering variable says of the leaving equation's terms.
use Rattle.std.proofs.Common.{◌≡◌, ◌≢◌, ◌⊎◌, inl, inr, ℕ, suc, ◌*◌, ◌<◌, ◌≤◌, if◌then◌else◌, Bool, true, false, List, [], ◌∷◌, length, get_or, ℤ, pos, unsigned_abs, Option, Some, None, All, refl, sym, ap, ◌∙◌, arith}
use Rattle.std.proofs.lemmas.Int.{ints}
use Rattle.std.proofs.lemmas.Bool.{cases_eq, and_parts, ltb-true, ltb-false, both_ways}
use Rattle.std.proofs.lemmas.List.Elements.{All-nil, All-cons}
use Rattle.std.proofs.Math.Nat.{mul-le-mul_right, le_of_mul-le-mul_right}
use Rattle.opt_sums.specs.Entries.{coef}
use Rattle.opt_sums.proofs.EntryLemmas.{one_other}
use Rattle.opt_frac.specs.Equations.{Equation}
use Rattle.opt_simplex.specs.Variables.{Variables, low_of, high_of, rests_high, is_free}
use Rattle.opt_simplex.specs.Choice.{can_help, may_enter, has_less_ratio, better, entering_from}
use Rattle.opt_simplex.proofs.Signs.{positive_is, negative_is}

-- the first one's ratio is no greater
abbrev pub HasLeastRatio : Equation → ℕ × ℤ → ℕ × ℤ → Type 0
HasLeastRatio cost d e = unsigned_abs (coef cost.terms d.0) * unsigned_abs e.1 ≤ unsigned_abs (coef cost.terms e.0) * unsigned_abs d.1

-- ratios with denominators above 0
ratio_trans : (a b c d e f : ℕ) → 0 < d → a * d ≤ c * b → c * f ≤ e * d → a * f ≤ e * b
ratio_trans a b c d e f h p q =
    let first : (a * d) * f ≤ (c * b) * f = mul-le-mul_right f p in
    let second : (c * f) * b ≤ (e * d) * b = mul-le-mul_right b q in
    let both : (a * f) * d ≤ (e * b) * d = omega arith in
    le_of_mul-le-mul_right both h

pub helper_not_zero : (below high : Bool) (c : ℤ) → can_help below high c ≡ true → 0 < unsigned_abs c
helper_not_zero true false c h = omega (arith, ints, positive_is c h)
helper_not_zero true true c h = omega (arith, ints, negative_is c h)
helper_not_zero false false c h = omega (arith, ints, negative_is c h)
helper_not_zero false true c h = omega (arith, ints, positive_is c h)

-- what is known of the best term so far
pub record IsBest (v : Variables) (at_high : List Bool) (below : Bool) (cost : Equation) (best : Option (ℕ × ℤ)) (ds : List (ℕ × ℤ))
    (d : ℕ × ℤ) : Type 0 where
  pub from : (best ≡ Some d) ⊎ ((may_enter v at_high below d ≡ true) × ((i : ℕ) × (i < length ds) × (get_or ds i d ≡ d)))
  pub least_of_best : (b : ℕ × ℤ) → best ≡ Some b → HasLeastRatio cost d b
  pub least : All (λ e. may_enter v at_high below e ≡ true → HasLeastRatio cost d e) ds

le_same : (a b : ℕ) → a ≡ b → a ≤ b
le_same a b h = omega arith

-- the choice among one term and the best before it
record IsChosen (v : Variables) (at_high : List Bool) (below : Bool) (cost : Equation) (best : Option (ℕ × ℤ)) (e : ℕ × ℤ)
    (chosen : Option (ℕ × ℤ)) : Type 0 where
  from : (c : ℕ × ℤ) → chosen ≡ Some c → (best ≡ Some c) ⊎ ((may_enter v at_high below e ≡ true) × (e ≡ c))
  least_of_best : (b : ℕ × ℤ) → best ≡ Some b → (c : ℕ × ℤ) × (chosen ≡ Some c) × HasLeastRatio cost c b
  least : may_enter v at_high below e ≡ true → (c : ℕ × ℤ) × (chosen ≡ Some c) × HasLeastRatio cost c e

chosen-is : (v : Variables) (at_high : List Bool) (below : Bool) (cost : Equation) (best : Option (ℕ × ℤ)) (e : ℕ × ℤ)
    → IsChosen v at_high below cost best e (if may_enter v at_high below e then better cost best e else best)
chosen-is v at_high below cost best e = by_test (may_enter v at_high below e) refl best
  where
    by_test : (t : Bool) → may_enter v at_high below e ≡ t → (best : Option (ℕ × ℤ))
        → IsChosen v at_high below cost best e (if t then better cost best e else best)
    by_test false p best =
        record {
          from = λ c h. inl h;
          least_of_best =
              λ b h. (b, h, le_same (unsigned_abs (coef cost.terms b.0) * unsigned_abs b.1) (unsigned_abs (coef cost.terms b.0) * unsigned_abs b.1) refl);
          least = λ h. absurd (both_ways (may_enter v at_high below e) p h);
        }
    by_test true p None =
        record {
          from = λ c h. inr (p, cc);
          least_of_best = λ b h. absurd (none_some b h);
          least =
              λ h. (e, refl, le_same (unsigned_abs (coef cost.terms e.0) * unsigned_abs e.1) (unsigned_abs (coef cost.terms e.0) * unsigned_abs e.1) refl);
        }
      where
        none_some : (b : ℕ × ℤ) → None ≡ Some b → ⊥
        none_some b h = cc
    by_test true p (Some a) = by_ratio (has_less_ratio cost e a) refl
      where
        by_ratio : (less : Bool) → has_less_ratio cost e a ≡ less → IsChosen v at_high below cost (Some a) e (if less then Some e else Some a)
        by_ratio true q =
            let under : HasLeastRatio cost e a =
            omega (arith, ltb-true (unsigned_abs (coef cost.terms e.0) * unsigned_abs a.1) (unsigned_abs (coef cost.terms a.0) * unsigned_abs e.1) q) in
            record {
              from = λ c h. inr (p, cc);
              least_of_best = λ b h. (e, refl, let same : a ≡ b = cc in rw (sym same) under);
              least =
                  λ h. (e, refl, le_same (unsigned_abs (coef cost.terms e.0) * unsigned_abs e.1) (unsigned_abs (coef cost.terms e.0) * unsigned_abs e.1) refl);
            }
        by_ratio false q =
            record {
              from = λ c h. inl h;
              least_of_best =
                  λ b h. (a, refl, let same : a ≡ b = cc in rw (sym same) (le_same (unsigned_abs (coef cost.terms a.0) * unsigned_abs a.1) (unsigned_abs (coef cost.terms a.0) * unsigned_abs a.1) refl));
              least =
                  λ h. (a, refl, ltb-false (unsigned_abs (coef cost.terms e.0) * unsigned_abs a.1) (unsigned_abs (coef cost.terms a.0) * unsigned_abs e.1) q);
            }

may_not_zero : (v : Variables) (at_high : List Bool) (below : Bool) (e : ℕ × ℤ) → may_enter v at_high below e ≡ true → 0 < unsigned_abs e.1
may_not_zero v at_high below e h =
    helper_not_zero below (rests_high at_high e.0) e.1
    (and_parts (is_free (low_of v e.0) (high_of v e.0)) (can_help below (rests_high at_high e.0) e.1) h).1

trans_least : (cost : Equation) (d c e : ℕ × ℤ) → 0 < unsigned_abs c.1 → HasLeastRatio cost d c → HasLeastRatio cost c e → HasLeastRatio cost d e
trans_least cost d c e h p q =
    ratio_trans (unsigned_abs (coef cost.terms d.0)) (unsigned_abs d.1) (unsigned_abs (coef cost.terms c.0)) (unsigned_abs c.1)
    (unsigned_abs (coef cost.terms e.0)) (unsigned_abs e.1) h p q

pub entering-some : (v : Variables) (at_high : List Bool) (below : Bool) (cost : Equation) (best : Option (ℕ × ℤ)) (ds : List (ℕ × ℤ)) (d : ℕ × ℤ)
    → ((b : ℕ × ℤ) → best ≡ Some b → 0 < unsigned_abs b.1) → entering_from v at_high below cost best ds ≡ Some d → IsBest v at_high below cost best ds d
entering-some v at_high below cost best [] d not_zero h =
    record {
      from = inl h;
      least_of_best =
          λ b e. let same : d ≡ b =
          cc in rw same
          (le_same (unsigned_abs (coef cost.terms b.0) * unsigned_abs b.1) (unsigned_abs (coef cost.terms b.0) * unsigned_abs b.1) refl);
      least = All-nil (λ e. may_enter v at_high below e ≡ true → HasLeastRatio cost d e);
    }
entering-some v at_high below cost best (e ∷ es) d not_zero h =
    let chosen : IsChosen v at_high below cost best e (if may_enter v at_high below e then better cost best e else best) =
    chosen-is v at_high below cost best e in
    let chosen_not_zero : (c : ℕ × ℤ) → (if may_enter v at_high below e then better cost best e else best) ≡ Some c → 0 < unsigned_abs c.1 =
    λ c k. elim (chosen.from c k) [
      | inl before ↦ not_zero c before
      | inr here ↦ let same : e ≡ c = here.1 in rw (sym same) (may_not_zero v at_high below e here.0)
    ] in
    let more : IsBest v at_high below cost (if may_enter v at_high below e then better cost best e else best) es d =
    entering-some v at_high below cost (if may_enter v at_high below e then better cost best e else best) es d chosen_not_zero h in
    record {
      from = source chosen more;
      least_of_best =
          λ b k. let c : (c : ℕ × ℤ) × ((if may_enter v at_high below e then better cost best e else best) ≡ Some c) × HasLeastRatio cost c b =
          chosen.least_of_best b k in
          trans_least cost d c.0 b (chosen_not_zero c.0 c.1) (more.least_of_best c.0 c.1) c.2;
      least = All-cons (λ a. may_enter v at_high below a ≡ true → HasLeastRatio cost d a) e es
          (λ k. let c : (c : ℕ × ℤ) × ((if may_enter v at_high below e then better cost best e else best) ≡ Some c) × HasLeastRatio cost c e = chosen.least k in
          trans_least cost d c.0 e (chosen_not_zero c.0 c.1) (more.least_of_best c.0 c.1) c.2)
          more.least;
    }
  where
    source : IsChosen v at_high below cost best e (if may_enter v at_high below e then better cost best e else best)
        → IsBest v at_high below cost (if may_enter v at_high below e then better cost best e else best) es d
        → (best ≡ Some d) ⊎ ((may_enter v at_high below d ≡ true) × ((i : ℕ) × (i < length (e ∷ es)) × (get_or (e ∷ es) i d ≡ d)))
    source chosen more =
        elim more.from [
          | inl now ↦
              elim (chosen.from d now) [
                | inl before ↦ inl before
                | inr here ↦ let same : e ≡ d = here.1 in inr (rw same at here.0, (0, omega arith, same))
              ]
          | inr later ↦ inr (later.0, (suc later.1.0, omega (arith, later.1.1), later.1.2))
        ]

pub entering-none : (v : Variables) (at_high : List Bool) (below : Bool) (cost : Equation) (best : Option (ℕ × ℤ)) (ds : List (ℕ × ℤ))
    → entering_from v at_high below cost best ds ≡ None → (best ≡ None) × All (λ e. may_enter v at_high below e ≡ false) ds
entering-none v at_high below cost best [] h = (h, All-nil (λ e. may_enter v at_high below e ≡ false))
entering-none v at_high below cost best (e ∷ es) h =
    let more : ((if may_enter v at_high below e then better cost best e else best) ≡ None) × All (λ a. may_enter v at_high below a ≡ false) es =
    entering-none v at_high below cost (if may_enter v at_high below e then better cost best e else best) es h in
    let here : (best ≡ None) × (may_enter v at_high below e ≡ false) = none_chosen (may_enter v at_high below e) best more.0 in
    (here.0, All-cons (λ a. may_enter v at_high below a ≡ false) e es here.1 more.1)
  where
    none_chosen : (t : Bool) (best : Option (ℕ × ℤ)) → (if t then better cost best e else best) ≡ None → (best ≡ None) × (t ≡ false)
    none_chosen false best k = (k, refl)
    none_chosen true None k = cc
    none_chosen true (Some b) k = absurd (by_ratio (has_less_ratio cost e b) k)
      where
        by_ratio : (t : Bool) → (if t then Some e else Some b) ≡ None → ⊥
        by_ratio true l = cc
        by_ratio false l = cc

-- a coefficient that is not 0 is that of a term
pub find_term : (es : List (ℕ × ℤ)) (k : ℕ) (d : ℕ × ℤ) → coef es k ≢ pos 0 → (i : ℕ) × (i < length es) × ((get_or es i d).0 ≡ k)
find_term [] k d h = absurd (h refl)
find_term (e ∷ es) k d h =
    elim (cases_eq e.0 k) [
      | inl same ↦ (0, omega arith, same)
      | inr apart ↦
          let there : coef es k ≢ pos 0 = λ z. h (omega (arith, ints, z, one_other e.0 k e.1 apart)) in
          let more : (i : ℕ) × (i < length es) × ((get_or es i d).0 ≡ k) = find_term es k d there in
          (suc more.0, omega (arith, more.1), more.2)
    ]

pub pair_same : (e : ℕ × ℤ) (k : ℕ) (x : ℤ) → e.0 ≡ k → e.1 ≡ x → e ≡ (k, x)
pair_same e k x a b = ap (λ n. (n, e.1)) a ∙ ap (λ y. (k, y)) b
