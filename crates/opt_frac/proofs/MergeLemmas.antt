-- Rising lists added term by term.
use Rattle.std.proofs.Common.{◌≡◌, ℕ, ◌<◌, List, [], ◌∷◌, ◌++◌, ℤ, ◌+ℤ◌, unsigned_abs, Bool, true, false, ◌&&◌, ◌==◌, if◌then◌else◌, All, refl, ap, sym, ◌∙◌, append_assoc, arith}
use Rattle.std.proofs.lemmas.List.Elements.{All-head, All-tail}
use Rattle.std.proofs.lemmas.Bool.Decides.{nat_tests}
use Rattle.opt_frac.specs.Divisors.{fits, all_fit}
use Rattle.opt_frac.specs.Elimination.{more, merged_sum, unless_zero}
use Rattle.opt_frac.specs.Merging.{sum_fits, sums_fit}
use Rattle.opt_frac.proofs.Shapes.{numbers-merged_sum}
use Rattle.opt_frac.proofs.TermSums.{more_before, more_after, more_same}
use Rattle.opt_frac.proofs.FitLemmas.{and_false_left, and_false_right}

-- each number is above n
abbrev pub Above : ℕ → List (ℕ × ℤ) → Type 0
Above n es = All (λ e. n < e.0) es

-- a term added in front of all others
pub more-front : (a : ℕ × ℤ) (es : List (ℕ × ℤ)) → Above a.0 es → more a es ≡ a ∷ es
more-front a [] h = refl
more-front a (e ∷ es) h = more_before a e es (All-head (λ d. a.0 < d.0) e es h)

-- ---- two lists by their first terms
pub merged_sum-left : (a : ℕ × ℤ) (es ds : List (ℕ × ℤ)) → Above a.0 es → Above a.0 ds → merged_sum (a ∷ es) ds ≡ a ∷ merged_sum es ds
merged_sum-left a es ds h k = more-front a (merged_sum es ds) (numbers-merged_sum (λ n. a.0 < n) es ds h k)

pub merged_sum-right : (d : ℕ × ℤ) (es ds : List (ℕ × ℤ)) → Above d.0 es → Above d.0 ds → merged_sum es (d ∷ ds) ≡ d ∷ merged_sum es ds
merged_sum-right d [] ds h k = refl
merged_sum-right d (e ∷ es) ds h k =
    ap (more e) (merged_sum-right d es ds (All-tail (λ x. d.0 < x.0) e es h) k)
    ∙ more_after e d (merged_sum es ds) (All-head (λ x. d.0 < x.0) e es h)

pub merged_sum-both : (a d : ℕ × ℤ) (es ds : List (ℕ × ℤ)) → a.0 ≡ d.0 → Above d.0 es → Above d.0 ds → merged_sum (a ∷ es) (d ∷ ds) ≡ unless_zero (d.0, a.1 +ℤ d.1) (merged_sum es ds)
merged_sum-both a d es ds same h k = ap (more a) (merged_sum-right d es ds h k) ∙ more_same a d (merged_sum es ds) same

unless_zero-append : (e : ℕ × ℤ) (es : List (ℕ × ℤ)) → unless_zero e es ≡ unless_zero e [] ++ es
unless_zero-append e es = by_test (unsigned_abs e.1 == 0)
  where
    by_test : (b : Bool) → (if b then es else e ∷ es) ≡ (if b then [] else e ∷ []) ++ es
    by_test true = refl
    by_test false = refl

-- ---- what is written so far and the sum of what is left make the whole, and what is left fits exactly where the whole does
abbrev pub Adds : List (ℕ × ℤ) → List (ℕ × ℤ) → List (ℕ × ℤ) → List (ℕ × ℤ) → Bool → Type 0
Adds sums kept added all fitting = (sums ++ merged_sum kept added ≡ all) × (sums_fit kept added ≡ fitting)

fit_left : (f a k s : Bool) → f ≡ true → ((f && a) && (k && (f && s))) ≡ (a && (k && s))
fit_left f a k s h = rw h refl

fit_right : (f a k s : Bool) → f ≡ true → (a && ((f && k) && (f && s))) ≡ (a && (k && s))
fit_right f a k s h = rw h refl

pub adds_left : (sums : List (ℕ × ℤ)) (a : ℕ × ℤ) (es ds all : List (ℕ × ℤ)) (fitting : Bool) → Above a.0 es → Above a.0 ds → fits a.1 ≡ true → Adds sums (a ∷ es) ds all fitting → Adds (sums ++ a ∷ []) es ds all fitting
adds_left sums a es ds all fitting h k fit is = (
  append_assoc sums (a ∷ []) (merged_sum es ds) ∙ ap (λ s. sums ++ s) (sym (merged_sum-left a es ds h k)) ∙ is.0,
  sym (fit_left (fits a.1) (all_fit es) (all_fit ds) (all_fit (merged_sum es ds)) fit)
      ∙ ap (λ s. (fits a.1 && all_fit es) && (all_fit ds && all_fit s)) (sym (merged_sum-left a es ds h k))
      ∙ is.1,
)

pub unfit_left : (sums : List (ℕ × ℤ)) (a : ℕ × ℤ) (es ds all : List (ℕ × ℤ)) (fitting : Bool) → fits a.1 ≡ false → Adds sums (a ∷ es) ds all fitting → fitting ≡ false
unfit_left sums a es ds all fitting unfit is =
    sym is.1 ∙ and_false_left (all_fit (a ∷ es)) _ (and_false_left (fits a.1) (all_fit es) unfit)

pub adds_right : (sums : List (ℕ × ℤ)) (d : ℕ × ℤ) (es ds all : List (ℕ × ℤ)) (fitting : Bool) → Above d.0 es → Above d.0 ds → fits d.1 ≡ true → Adds sums es (d ∷ ds) all fitting → Adds (sums ++ d ∷ []) es ds all fitting
adds_right sums d es ds all fitting h k fit is = (
  append_assoc sums (d ∷ []) (merged_sum es ds) ∙ ap (λ s. sums ++ s) (sym (merged_sum-right d es ds h k)) ∙ is.0,
  sym (fit_right (fits d.1) (all_fit es) (all_fit ds) (all_fit (merged_sum es ds)) fit)
      ∙ ap (λ s. all_fit es && ((fits d.1 && all_fit ds) && all_fit s)) (sym (merged_sum-right d es ds h k))
      ∙ is.1,
)

pub unfit_right : (sums : List (ℕ × ℤ)) (d : ℕ × ℤ) (es ds all : List (ℕ × ℤ)) (fitting : Bool) → fits d.1 ≡ false → Adds sums es (d ∷ ds) all fitting → fitting ≡ false
unfit_right sums d es ds all fitting unfit is =
    sym is.1
    ∙ and_false_right (all_fit es) _ (and_false_left (all_fit (d ∷ ds)) _ (and_false_left (fits d.1) (all_fit ds) unfit))

-- a sum that fits changes nothing, and one that does not is not 0
all_fit-unless_zero : (e : ℕ × ℤ) (es : List (ℕ × ℤ)) → fits e.1 ≡ true → all_fit (unless_zero e es) ≡ all_fit es
all_fit-unless_zero e es fit = by_test (unsigned_abs e.1 == 0)
  where
    by_test : (b : Bool) → all_fit (if b then es else e ∷ es) ≡ all_fit es
    by_test true = refl
    by_test false = rw fit refl

unfit-unless_zero : (e : ℕ × ℤ) (es : List (ℕ × ℤ)) → fits e.1 ≡ false → all_fit (unless_zero e es) ≡ false
unfit-unless_zero e es unfit =
    let some : (unsigned_abs e.1 == 0) ≡ false = grind (arith, nat_tests) in
    rw some (and_false_left (fits e.1) (all_fit es) unfit)

both_true : (f g s : Bool) → (f && (g && s)) ≡ true → (f ≡ true) × (g ≡ true) × (s ≡ true)
both_true true true true h = (refl, refl, refl)
both_true true true false h = cc
both_true true false s h = cc
both_true false g s h = cc

fit_both : (f g a k s : Bool) → f ≡ true → g ≡ true → ((f && a) && ((g && k) && s)) ≡ (a && (k && s))
fit_both f g a k s h i = rw (h, i) refl

pub adds_both : (sums : List (ℕ × ℤ)) (a d : ℕ × ℤ) (es ds all : List (ℕ × ℤ)) (fitting : Bool) → a.0 ≡ d.0 → Above d.0 es → Above d.0 ds → sum_fits a.1 d.1 ≡ true → Adds sums (a ∷ es) (d ∷ ds) all fitting → Adds (sums ++ unless_zero (a.0, a.1 +ℤ d.1) []) es ds all fitting
adds_both sums a d es ds all fitting same h k fit is =
    let each = both_true (fits a.1) (fits d.1) (fits (a.1 +ℤ d.1)) fit in
    let sum : merged_sum (a ∷ es) (d ∷ ds) ≡ unless_zero (a.0, a.1 +ℤ d.1) (merged_sum es ds) =
    merged_sum-both a d es ds same h k ∙ ap (λ n. unless_zero (n, a.1 +ℤ d.1) (merged_sum es ds)) (sym same)
    in (
      append_assoc sums (unless_zero (a.0, a.1 +ℤ d.1) []) (merged_sum es ds)
          ∙ ap (λ s. sums ++ s) (sym (unless_zero-append (a.0, a.1 +ℤ d.1) (merged_sum es ds)) ∙ sym sum)
          ∙ is.0,
      ap (λ s. all_fit es && (all_fit ds && s)) (sym (all_fit-unless_zero (a.0, a.1 +ℤ d.1) (merged_sum es ds) each.2))
          ∙ sym (fit_both (fits a.1) (fits d.1) (all_fit es) (all_fit ds) (all_fit (unless_zero (a.0, a.1 +ℤ d.1) (merged_sum es ds))) each.0 each.1)
          ∙ ap (λ s. (fits a.1 && all_fit es) && ((fits d.1 && all_fit ds) && all_fit s)) (sym sum)
          ∙ is.1,
    )

unfit_one : (f g s a k t : Bool) → (f && (g && s)) ≡ false → (s ≡ false → t ≡ false) → ((f && a) && ((g && k) && t)) ≡ false
unfit_one false g s a k t h i = refl
unfit_one true false s a k t h i = and_false_right a _ refl
unfit_one true true s a k t h i = and_false_right a _ (and_false_right k t (i h))

pub unfit_both : (sums : List (ℕ × ℤ)) (a d : ℕ × ℤ) (es ds all : List (ℕ × ℤ)) (fitting : Bool) → a.0 ≡ d.0 → Above d.0 es → Above d.0 ds → sum_fits a.1 d.1 ≡ false → Adds sums (a ∷ es) (d ∷ ds) all fitting → fitting ≡ false
unfit_both sums a d es ds all fitting same h k unfit is =
    sym is.1
    ∙ unfit_one (fits a.1) (fits d.1) (fits (a.1 +ℤ d.1)) (all_fit es) (all_fit ds) (all_fit (merged_sum (a ∷ es) (d ∷ ds))) unfit
    (λ wide. ap all_fit (merged_sum-both a d es ds same h k) ∙ unfit-unless_zero (d.0, a.1 +ℤ d.1) (merged_sum es ds) wide)

-- ---- what is written so far and what is left of one list make the whole
abbrev pub Keeps : List (ℕ × ℤ) → List (ℕ × ℤ) → List (ℕ × ℤ) → Bool → Type 0
Keeps sums rest all fitting = (sums ++ rest ≡ all) × (all_fit rest ≡ fitting)

pub keeps_more : (sums : List (ℕ × ℤ)) (a : ℕ × ℤ) (es all : List (ℕ × ℤ)) (fitting : Bool) → fits a.1 ≡ true → Keeps sums (a ∷ es) all fitting → Keeps (sums ++ a ∷ []) es all fitting
keeps_more sums a es all fitting fit is = (append_assoc sums (a ∷ []) es ∙ is.0, ap (λ f. f && all_fit es) (sym fit) ∙ is.1)

pub keeps_unfit : (sums : List (ℕ × ℤ)) (a : ℕ × ℤ) (es all : List (ℕ × ℤ)) (fitting : Bool) → fits a.1 ≡ false → Keeps sums (a ∷ es) all fitting → fitting ≡ false
keeps_unfit sums a es all fitting unfit is = sym is.1 ∙ and_false_left (fits a.1) (all_fit es) unfit
