-- The entries that a turn, an elimination and a division make: they rise, none is 0, and which numbers they have.
use Rattle.std.proofs.Common.{◌≢◌, ℕ, ◌<◌, ◌==◌, Bool, true, false, not, List, [], ◌∷◌, map, ℤ, pos, neg_ℤ, ◌+ℤ◌, unsigned_abs, All, ap, inl, inr, arith}
use Rattle.std.proofs.lemmas.Int.{ints}
use Rattle.std.proofs.lemmas.Bool.{eq-eqb, ne_eqb, cases_order, cases_eq}
use Rattle.std.proofs.lemmas.List.Elements.{All-nil, All-cons, All-head, All-tail, All-map, All-filter, All-weaker}
use Rattle.std.proofs.lemmas.List.Kept.{AllPairs-filter}
use Rattle.opt_sums.specs.Entries.{IsRising, HasNoZero}
use Rattle.opt_sums.proofs.RisingLemmas.{IsRising-nil, IsRising-cons, IsRising-head, IsRising-tail}
use Rattle.opt_frac.specs.Elimination.{without, unless_zero, more, merged_sum, negated_if}
use Rattle.opt_frac.proofs.TermSums.{more_before, more_after, more_same}

-- ---- which numbers the entries have
pub numbers-unless_zero : (P : ℕ → Type 0) (e : ℕ × ℤ) (es : List (ℕ × ℤ)) → P e.0 → All (λ d. P d.0) es → All (λ d. P d.0) (unless_zero e es)
numbers-unless_zero P e es h k =
    elim (cases_eq (unsigned_abs e.1) 0) [
      | inl z ↦ rw (eq-eqb (unsigned_abs e.1) 0 z) k
      | inr z ↦ rw (ne_eqb (unsigned_abs e.1) 0 z) (All-cons (λ d. P d.0) e es h k)
    ]

pub numbers-more : (P : ℕ → Type 0) (a : ℕ × ℤ) (es : List (ℕ × ℤ)) → P a.0 → All (λ d. P d.0) es → All (λ d. P d.0) (more a es)
numbers-more P a [] h k = All-cons (λ d. P d.0) a [] h k
numbers-more P a (e ∷ es) h k =
    let head : P e.0 = All-head (λ d. P d.0) e es k in
    let tail : All (λ d. P d.0) es = All-tail (λ d. P d.0) e es k in
    elim (cases_order a.0 e.0) [
      | inl same ↦ rw (more_same a e es same) (numbers-unless_zero P (e.0, a.1 +ℤ e.1) es head tail)
      | inr apart ↦
          elim apart [
            | inl before ↦ rw (more_before a e es before) (All-cons (λ d. P d.0) a (e ∷ es) h k)
            | inr after ↦ rw (more_after a e es after) (All-cons (λ d. P d.0) e (more a es) head (numbers-more P a es h tail))
          ]
    ]

pub numbers-merged_sum : (P : ℕ → Type 0) (es ds : List (ℕ × ℤ)) → All (λ d. P d.0) es → All (λ d. P d.0) ds → All (λ d. P d.0) (merged_sum es ds)
numbers-merged_sum P [] ds h k = k
numbers-merged_sum P (e ∷ es) ds h k =
    numbers-more P e (merged_sum es ds) (All-head (λ d. P d.0) e es h) (numbers-merged_sum P es ds (All-tail (λ d. P d.0) e es h) k)

-- entries that keep their numbers
pub numbers-map : (P : ℕ → Type 0) (h : ℕ × ℤ → ℤ) (es : List (ℕ × ℤ)) → All (λ d. P d.0) es → All (λ (d : ℕ × ℤ). P d.0) (map (λ e. (e.0, h e)) es)
numbers-map P h es k = All-map (λ (d : ℕ × ℤ). P d.0) (λ e. (e.0, h e)) es k

pub numbers-negated_if : (P : ℕ → Type 0) (b : Bool) (es : List (ℕ × ℤ)) → All (λ d. P d.0) es → All (λ d. P d.0) (negated_if b es)
numbers-negated_if P true es h = numbers-map P (λ e. neg_ℤ e.1) es h
numbers-negated_if P false es h = h

-- none is at the number that is left out
pub numbers-without : (k : ℕ) (es : List (ℕ × ℤ)) → All (λ d. d.0 ≢ k) (without k es)
numbers-without k [] = All-nil (λ d. d.0 ≢ k)
numbers-without k (e ∷ es) =
    elim (cases_eq e.0 k) [
      | inl same ↦ rw (eq-eqb e.0 k same) (numbers-without k es)
      | inr apart ↦ rw (ne_eqb e.0 k apart) (All-cons (λ d. d.0 ≢ k) e (without k es) apart (numbers-without k es))
    ]

-- ---- numbers rise
pub rising-unless_zero : (e : ℕ × ℤ) (es : List (ℕ × ℤ)) → All (λ d. e.0 < d.0) es → IsRising es → IsRising (unless_zero e es)
rising-unless_zero e es h k =
    elim (cases_eq (unsigned_abs e.1) 0) [
      | inl z ↦ rw (eq-eqb (unsigned_abs e.1) 0 z) k
      | inr z ↦ rw (ne_eqb (unsigned_abs e.1) 0 z) (IsRising-cons e es h k)
    ]

pub rising-more : (a : ℕ × ℤ) (es : List (ℕ × ℤ)) → IsRising es → IsRising (more a es)
rising-more a [] h = IsRising-cons a [] (All-nil (λ d. a.0 < d.0)) h
rising-more a (e ∷ es) h =
    let head : All (λ d. e.0 < d.0) es = IsRising-head e es h in
    let tail : IsRising es = IsRising-tail e es h in
    elim (cases_order a.0 e.0) [
      | inl same ↦ rw (more_same a e es same) (rising-unless_zero (e.0, a.1 +ℤ e.1) es head tail)
      | inr apart ↦
          elim apart [
            | inl before ↦
                let lower : a.0 < e.0 = before in
                rw (more_before a e es before) (IsRising-cons a (e ∷ es) (All-cons (λ d. a.0 < d.0) e es lower (All-weaker (λ d. e.0 < d.0) (λ d. a.0 < d.0) (λ d k. omega arith) es head)) h)
            | inr after ↦ rw (more_after a e es after) (IsRising-cons e (more a es) (numbers-more (λ n. e.0 < n) a es after head) (rising-more a es tail))
          ]
    ]

pub rising-merged_sum : (es ds : List (ℕ × ℤ)) → IsRising ds → IsRising (merged_sum es ds)
rising-merged_sum [] ds h = h
rising-merged_sum (e ∷ es) ds h = rising-more e (merged_sum es ds) (rising-merged_sum es ds h)

pub rising-map : (h : ℕ × ℤ → ℤ) (es : List (ℕ × ℤ)) → IsRising es → IsRising (map (λ e. (e.0, h e)) es)
rising-map h [] k = IsRising-nil
rising-map h (e ∷ es) k =
    IsRising-cons (e.0, h e) (map (λ d. (d.0, h d)) es) (numbers-map (λ n. e.0 < n) h es (IsRising-head e es k)) (rising-map h es (IsRising-tail e es k))

pub rising-negated_if : (b : Bool) (es : List (ℕ × ℤ)) → IsRising es → IsRising (negated_if b es)
rising-negated_if true es h = rising-map (λ e. neg_ℤ e.1) es h
rising-negated_if false es h = h

pub rising-without : (k : ℕ) (es : List (ℕ × ℤ)) → IsRising es → IsRising (without k es)
rising-without k es h = AllPairs-filter (λ e d. e.0 < d.0) (λ e. not (e.0 == k)) es h

-- ---- no coefficient is 0
no_zero-unless_zero : (e : ℕ × ℤ) (es : List (ℕ × ℤ)) → HasNoZero es → HasNoZero (unless_zero e es)
no_zero-unless_zero e es h =
    elim (cases_eq (unsigned_abs e.1) 0) [
      | inl z ↦ rw (eq-eqb (unsigned_abs e.1) 0 z) h
      | inr z ↦ rw (ne_eqb (unsigned_abs e.1) 0 z) (All-cons (λ d. d.1 ≢ pos 0) e es (λ same. z (ap unsigned_abs same)) h)
    ]

pub no_zero-more : (a : ℕ × ℤ) (es : List (ℕ × ℤ)) → a.1 ≢ pos 0 → HasNoZero es → HasNoZero (more a es)
no_zero-more a [] h k = All-cons (λ d. d.1 ≢ pos 0) a [] h k
no_zero-more a (e ∷ es) h k =
    let head : e.1 ≢ pos 0 = All-head (λ d. d.1 ≢ pos 0) e es k in
    let tail : HasNoZero es = All-tail (λ d. d.1 ≢ pos 0) e es k in
    elim (cases_order a.0 e.0) [
      | inl same ↦ rw (more_same a e es same) (no_zero-unless_zero (e.0, a.1 +ℤ e.1) es tail)
      | inr apart ↦
          elim apart [
            | inl before ↦ rw (more_before a e es before) (All-cons (λ d. d.1 ≢ pos 0) a (e ∷ es) h k)
            | inr after ↦ rw (more_after a e es after) (All-cons (λ d. d.1 ≢ pos 0) e (more a es) head (no_zero-more a es h tail))
          ]
    ]

pub no_zero-merged_sum : (es ds : List (ℕ × ℤ)) → HasNoZero es → HasNoZero ds → HasNoZero (merged_sum es ds)
no_zero-merged_sum [] ds h k = k
no_zero-merged_sum (e ∷ es) ds h k =
    no_zero-more e (merged_sum es ds) (All-head (λ d. d.1 ≢ pos 0) e es h) (no_zero-merged_sum es ds (All-tail (λ d. d.1 ≢ pos 0) e es h) k)

pub no_zero-map : (h : ℕ × ℤ → ℤ) (es : List (ℕ × ℤ)) → All (λ e. h e ≢ pos 0) es → HasNoZero (map (λ e. (e.0, h e)) es)
no_zero-map h es k = All-map (λ d. d.1 ≢ pos 0) (λ e. (e.0, h e)) es k

neg_not_zero : (z : ℤ) → z ≢ pos 0 → neg_ℤ z ≢ pos 0
neg_not_zero z h e = h (omega (arith, ints))

pub no_zero-negated_if : (b : Bool) (es : List (ℕ × ℤ)) → HasNoZero es → HasNoZero (negated_if b es)
no_zero-negated_if true es h = no_zero-map (λ e. neg_ℤ e.1) es (All-weaker (λ d. d.1 ≢ pos 0) (λ d. neg_ℤ d.1 ≢ pos 0) (λ d k. neg_not_zero d.1 k) es h)
no_zero-negated_if false es h = h

pub no_zero-without : (k : ℕ) (es : List (ℕ × ℤ)) → HasNoZero es → HasNoZero (without k es)
no_zero-without k es h = All-filter (λ e. not (e.0 == k)) (λ d. d.1 ≢ pos 0) es h
